-- The totals at nodes are those of the groups below.
use Rattle.std.proofs.Common.{◌≡◌, ℕ, zero, suc, ◌+◌, ◌<◌, Bool, true, false, List, [], ◌∷◌, ◌++◌, if◌then◌else◌, length, map, take, fold, get_or, replicate, refl, sym, ap, ◌∙◌, arith, add-one}
use Rattle.std.proofs.lemmas.Grind.{fold-append}
use Rattle.cal_context.specs.Tree.{Tree, path_at}
use Rattle.cal_context.specs.declared.numbers.NodeNumber.{NodeNumber}
use Rattle.cal_context.proofs.ListLemmas.{map-alike}
use Rattle.cal_value.specs.declared.attribute.Entry.{Entry}
use Rattle.cal_value.specs.declared.record.Rec.{Rec}
use Rattle.cal_engine.specs.Finishing.{parts_where}
use Rattle.cal_parts.specs.Parts.{Gathered, merged_parts}
use Rattle.cal_engine.specs.Rows.{is_below}
use Rattle.cal_engine.specs.Totals.{AreTotals, IsAddedAbove}
use Rattle.cal_keys.specs.Leading.{AreWays, AreWaysBehind}
use Rattle.cal_keys.specs.Trails.{begins, trail}
use Rattle.cal_engine.proofs.Trails.{begins-behind, begins-trail}

-- ---- parts of those that pass a test

parts_where-map : {A B : Type 0} (test : B → Bool) (f : A → B) (xs : List A) (ps : List (List Gathered))
    → parts_where test (map f xs) ps ≡ parts_where (λ x. test (f x)) xs ps
parts_where-map test f [] ps = refl
parts_where-map test f (x ∷ xs) [] = refl
parts_where-map test f (x ∷ xs) (p ∷ ps) = ap (λ qs. if test (f x) then p ∷ qs else qs) (parts_where-map test f xs ps)

parts_where-alike : {A : Type 0} (p q : A → Bool) → ((x : A) → p x ≡ q x) → (xs : List A) (ps : List (List Gathered))
    → parts_where p xs ps ≡ parts_where q xs ps
parts_where-alike p q same [] ps = refl
parts_where-alike p q same (x ∷ xs) [] = refl
parts_where-alike p q same (x ∷ xs) (r ∷ ps) =
    λ i. if same x i then r ∷ parts_where-alike p q same xs ps i else parts_where-alike p q same xs ps i

parts_where-more : {A : Type 0} (test : A → Bool) (xs : List A) (ps : List (List Gathered)) (i : ℕ) (x : A) (p : List Gathered)
    → i < length xs → i < length ps → x ≡ get_or xs i x → p ≡ get_or ps i p
    → parts_where test (take (suc i) xs) (take (suc i) ps)
    ≡ parts_where test (take i xs) (take i ps) ++ (if test x then p ∷ [] else [])
parts_where-more test [] ps i x p l m e f = absurd (omega arith)
parts_where-more test (y ∷ ys) [] i x p l m e f = absurd (omega arith)
parts_where-more test (y ∷ ys) (q ∷ qs) zero x p l m e f =
    by (test y) ∙ (λ i. if test (sym e i) then sym f i ∷ [] else [])
  where
    by : (b : Bool) → (if b then q ∷ [] else []) ≡ (if b then q ∷ [] else [])
    by b = refl
parts_where-more test (y ∷ ys) (q ∷ qs) (suc i) x p l m e f =
    ap (λ rs. if test y then q ∷ rs else rs) (parts_where-more test ys qs i x p (omega arith) (omega arith) e f)
    ∙ by (test y)
  where
    by : (b : Bool)
        → (if b then q ∷ (parts_where test (take i ys) (take i qs) ++ (if test x then p ∷ [] else [])) else (parts_where test (take i ys) (take i qs) ++ (if test x then p ∷ [] else [])))
        ≡ (if b then q ∷ parts_where test (take i ys) (take i qs) else parts_where test (take i ys) (take i qs)) ++ (if test x then p ∷ [] else [])
    by true = refl
    by false = refl

-- ---- one node more

pub totals_more : (t : Tree) (nodes : List NodeNumber) (parts : List (List Gathered)) (none : List Gathered) (before now : List (List Gathered))
    (i : ℕ) (node : NodeNumber) (added : List Gathered)
    → i < length nodes → i < length parts → node ≡ get_or nodes i node → added ≡ get_or parts i added
    → AreTotals t (take i nodes) (take i parts) none before
    → length now ≡ length t.paths → IsAddedAbove t node added before now
    → AreTotals t (take (i + 1) nodes) (take (i + 1) parts) none now
totals_more t nodes parts none before now i node added l m e f are long adds = record { long = long; at = at }
  where
    at : (n : NodeNumber) (d : List Gathered) → n.0 < length t.paths
        → get_or now n.0 d ≡ fold merged_parts none (parts_where (λ m. begins (path_at t n) (path_at t m)) (take (i + 1) nodes) (take (i + 1) parts))
    at n d within =
        adds.at n d within
        ∙ by (begins (path_at t n) (path_at t node))
        ∙ sym (ap (fold merged_parts none) more
        ∙ fold-append merged_parts none (parts_where (λ m. begins (path_at t n) (path_at t m)) (take i nodes) (take i parts)) (if begins (path_at t n) (path_at t node) then added ∷ [] else []))
      where
        more : parts_where (λ m. begins (path_at t n) (path_at t m)) (take (i + 1) nodes) (take (i + 1) parts)
            ≡ parts_where (λ m. begins (path_at t n) (path_at t m)) (take i nodes) (take i parts) ++ (if begins (path_at t n) (path_at t node) then added ∷ [] else [])
        more =
            ap (λ k. parts_where (λ m. begins (path_at t n) (path_at t m)) (take k nodes) (take k parts)) (add-one i)
            ∙ parts_where-more (λ m. begins (path_at t n) (path_at t m)) nodes parts i node added l m e f

        by : (b : Bool)
            → (if b then merged_parts (get_or before n.0 d) added else get_or before n.0 d)
            ≡ fold merged_parts (fold merged_parts none (parts_where (λ m. begins (path_at t n) (path_at t m)) (take i nodes) (take i parts))) (if b then added ∷ [] else [])
        by true = ap (λ g. merged_parts g added) (are.at n d within)
        by false = are.at n d within

-- ---- by the ways of the groups

map-map : {A B C : Type 0} (g : B → C) (f : A → B) (xs : List A) → map g (map f xs) ≡ map (λ x. g (f x)) xs
map-map g f [] = refl
map-map g f (x ∷ xs) = ap (λ ys. g (f x) ∷ ys) (map-map g f xs)

module _ (t : Tree) (front : List Entry) (keys : List Rec) (nodes : List NodeNumber) (parts : List (List Gathered)) (none : List Gathered) where
  -- the parts of the nodes whose paths a path begins, behind the same entries
  abbrev below_path : List Entry → List Gathered
  below_path path = fold merged_parts none (parts_where (λ m. begins path (front ++ path_at t m)) nodes parts)

  below_node : (n : NodeNumber) → fold merged_parts none (parts_where (λ m. begins (path_at t n) (path_at t m)) nodes parts) ≡ below_path (front ++ path_at t n)
  below_node n = ap (fold merged_parts none)
      (parts_where-alike (λ m. begins (path_at t n) (path_at t m)) (λ m. begins (front ++ path_at t n) (front ++ path_at t m))
      (λ m. sym (begins-behind front (path_at t n) (path_at t m))) nodes parts)

  below_trail : AreWaysBehind t front keys nodes → (key : Rec) → below_path (trail key) ≡ fold merged_parts none (parts_where (is_below key) keys parts)
  below_trail ways key = ap (fold merged_parts none) (
      sym (parts_where-map (begins (trail key)) (λ n. front ++ path_at t n) nodes parts)
      ∙ ap (λ ps. parts_where (begins (trail key)) ps parts) ways.paths
      ∙ parts_where-map (begins (trail key)) trail keys parts
      ∙ parts_where-alike (λ other. begins (trail key) (trail other)) (is_below key) (begins-trail key) keys parts)

  pub totals_below : (totals below : List (List Gathered))
      → AreWaysBehind t front keys nodes → AreTotals t nodes parts none totals
      → below ≡ map (λ n. get_or totals n.0 []) nodes
      → below ≡ map (λ key. fold merged_parts none (parts_where (is_below key) keys parts)) keys
  totals_below totals below ways are is =
      is
      ∙ map-alike (λ n. get_or totals n.0 []) (λ n. below_path (front ++ path_at t n)) nodes
      (λ k d l. are.at (get_or nodes k d) [] (ways.within k d l) ∙ below_node (get_or nodes k d))
      ∙ sym (map-map below_path (λ n. front ++ path_at t n) nodes)
      ∙ ap (map below_path) ways.paths
      ∙ map-map below_path trail keys
      ∙ map-alike (λ key. below_path (trail key)) (λ key. fold merged_parts none (parts_where (is_below key) keys parts)) keys (λ k d l. below_trail ways (get_or keys k d))

-- ways are behind nothing
pub ways_behind : (t : Tree) (keys : List Rec) (nodes : List NodeNumber) → AreWays t keys nodes → AreWaysBehind t [] keys nodes
ways_behind t keys nodes ways = record { within = ways.within; paths = ways.paths }
