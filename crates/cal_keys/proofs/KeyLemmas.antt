-- The keys of groups by numbers.
use Rattle.std.proofs.Common.{◌≡◌, ℕ, zero, suc, ◌+◌, ◌<◌, true, false, List, [], ◌∷◌, ◌++◌, inl, inr, length, map, take, filter, get_or, slice_get, Some, None, Option}
use Rattle.std.proofs.Common.{refl, sym, ◌∙◌, ap, subst, arith, Contains}
use Rattle.std.specs.List.{All}
use Rattle.std.proofs.lemmas.List.{map-append, take_more}
use Rattle.std.proofs.lemmas.List.Elements.{All-head, All-tail}
use Rattle.cal_context.specs.Lists.{AreApart, Adds, Interns}
use Rattle.cal_context.specs.Snapshots.{IsBelowRoot, entry_of, meaning}
use Rattle.cal_context.specs.Tree.{Tree, Grows, IsContext, path_at}
use Rattle.cal_context.specs.declared.numbers.NodeNumber.{NodeNumber}
use Rattle.cal_context.specs.declared.snapshot.Immediate.{Immediate}
use Rattle.cal_context.specs.declared.snapshot.Snapshot.{Snapshot}
use Rattle.cal_context.proofs.CallerLemmas.{one_node, path_at-Grows, within_paths}
use Rattle.cal_context.proofs.ListLemmas.{map-alike}
use Rattle.cal_value.specs.Flat.{joined}
use Rattle.cal_value.specs.declared.attribute.Entry.{Entry}
use Rattle.cal_value.specs.declared.record.Rec.{Rec}
use Rattle.cal_keys.specs.Groups.{group_of, has_entries, taken}
use Rattle.cal_keys.specs.Keys.{ArePaths, IsKeyIn, IsKeyOf, key_in, room_of}
use Rattle.cal_keys.specs.Leading.{Leads}
use Rattle.cal_keys.specs.declared.key.GroupKey.{GroupKey}

-- ---- the paths of a key

pub ArePaths-Grows : {old new : Tree} → Grows old new → (nodes : List NodeNumber) (paths : List (List Entry)) → ArePaths old nodes paths → ArePaths new nodes paths
ArePaths-Grows {old} {new} grows nodes paths h = record {
  within = λ k d l. let n = h.within k d l in record { below = n.below; within = within_paths grows _ n.within };
  are = map-alike (path_at new) (path_at old) nodes (λ k d l. path_at-Grows grows (get_or nodes k d) (h.within k d l).within) ∙ h.are;
}

pub map_next : {A B : Type 0} (f : A → B) (xs : List A) (i : ℕ) (x : A) → i < length xs → x ≡ get_or xs i x
    → map f (take (i + 1) xs) ≡ map f (take i xs) ++ f x ∷ []
map_next f xs i x short read =
    ap (map f) (take_more xs i x short ∙ ap (λ y. take i xs ++ y ∷ []) (sym read)) ∙ map-append f (take i xs) (x ∷ [])

-- ---- the key of a record

pub key_of_snapshot : (t mid own : Tree) (s : Snapshot) (names : List (List ℕ)) (ns : List NodeNumber) (is : List Immediate)
    (nodes : List NodeNumber) (key : GroupKey) → ns ≡ s.nodes.items → is ≡ s.imms.items → Grows mid own
    → ArePaths mid nodes (filter has_entries (taken true names (joined (map (path_at t) ns))))
    → Leads own (joined (taken false names (map (entry_of t) is))) key.imms → key.paths ≡ nodes
    → IsKeyOf own (group_of (Some names) (meaning t s)) key
key_of_snapshot t mid own s names ns is nodes key e f grows paths imms same =
    let now = ArePaths-Grows grows nodes _ (subst (λ ms. ArePaths mid nodes (filter has_entries (taken true names (joined (map (path_at t) ms))))) e paths) in
    let last = subst (λ js. Leads own (joined (taken false names (map (entry_of t) js))) key.imms) f imms in
    record {
      within = record { paths = subst (All (IsBelowRoot own)) (sym same) now.within; imms = last.within };
      is = λ i. record { paths = (ap (map (path_at own)) same ∙ now.are) i; imms = last.is i };
    }

-- ---- keys are alike where their groups are

nodes_alike : (t : Tree) → IsContext t → (ns ms : List NodeNumber) → All (IsBelowRoot t) ns → All (IsBelowRoot t) ms → map (path_at t) ns ≡ map (path_at t) ms → ns ≡ ms
nodes_alike t context [] [] h g e = refl
nodes_alike t context [] (m ∷ ms) h g e = cc
nodes_alike t context (n ∷ ns) [] h g e = cc
nodes_alike t context (n ∷ ns) (m ∷ ms) h g e =
    let first : path_at t n ≡ path_at t m = cc in
    let rest : map (path_at t) ns ≡ map (path_at t) ms = cc in
    let one = one_node context n m (All-head (IsBelowRoot t) n ns h).within (All-head (IsBelowRoot t) m ms g).within first in
    let others = nodes_alike t context ns ms (All-tail (IsBelowRoot t) n ns h) (All-tail (IsBelowRoot t) m ms g) rest in
    λ i. one i ∷ others i

pub keys_alike : (t : Tree) → IsContext t → (k l : GroupKey) → IsKeyIn t k → IsKeyIn t l → key_in t k ≡ key_in t l → k ≡ l
keys_alike t context k l h g e =
    let paths = nodes_alike t context k.paths l.paths h.paths g.paths (ap (λ (r : Rec). r.paths) e) in
    let imms = one_node context k.imms l.imms h.imms g.imms (ap (λ (r : Rec). r.imms) e) in
    λ i. record { paths = paths i; imms = imms i }

module _ {A B : Type 0} (P : A → Type 0) (f : A → B) (alike : (x y : A) → P x → P y → f x ≡ f y → x ≡ y) where
  map_get : (xs : List A) (n : ℕ) (x : A) → slice_get xs n ≡ Some x → slice_get (map f xs) n ≡ Some (f x)
  map_get [] n x e = cc
  map_get (y ∷ ys) zero x e = let is : y ≡ x = cc in ap (λ z. Some (f z)) is
  map_get (y ∷ ys) (suc n) x e = map_get ys n x e

  map_at : (xs : List A) (n : ℕ) (d : B) (c : A) → n < length xs → get_or (map f xs) n d ≡ f (get_or xs n c)
  map_at [] n d c l = absurd (omega arith)
  map_at (y ∷ ys) zero d c l = refl
  map_at (y ∷ ys) (suc n) d c l = map_at ys n d c (omega arith)

  map_long : (xs : List A) → length (map f xs) ≡ length xs
  map_long [] = refl
  map_long (x ∷ xs) = ap suc (map_long xs)

  there : (xs : List A) (x : A) → Contains xs x → Contains (map f xs) (f x)
  there xs x h =
      let long = map_long xs in
      (h.0, omega (arith, h.1, long), map_at xs h.0 (f x) x h.1 ∙ ap f h.2)

  pub back : (xs : List A) (x : A) → All P xs → P x → Contains (map f xs) (f x) → Contains xs x
  back xs x all px h =
      let long = map_long xs in
      let within : h.0 < length xs = omega (arith, h.1, long) in
      (h.0, within, alike (get_or xs h.0 x) x (all h.0 x within) px (sym (map_at xs h.0 (f x) x within) ∙ h.2))

  pub apart_map : (xs : List A) → All P xs → AreApart xs → AreApart (map f xs)
  apart_map [] all apart i j d a b e = absurd (omega (arith, a))
  apart_map (x ∷ xs) all apart i j d a b e =
      let long = map_long (x ∷ xs) in
      let one : i < length (x ∷ xs) = omega (arith, a, long) in
      let other : j < length (x ∷ xs) = omega (arith, b, long) in
      apart i j x one other
      (alike (get_or (x ∷ xs) i x) (get_or (x ∷ xs) j x) (all i x one) (all j x other)
      (sym (map_at (x ∷ xs) i d x one) ∙ e ∙ map_at (x ∷ xs) j d x other))

  adds_map : (old : List A) (x : A) (new : List A) → All P old → P x → Adds old x new → Adds (map f old) (f x) (map f new)
  adds_map old x new all px (inl h) = inl (there old x h.0, ap (map f) h.1)
  adds_map old x new all px (inr h) = inr (λ g. h.0 (back old x all px g), ap (map f) h.1 ∙ map-append f old (x ∷ []))

  pub interns_map : (old : List A) (x : A) (new : List A) (n : ℕ) → All P old → P x → Interns old x new n → Interns (map f old) (f x) (map f new) n
  interns_map old x new n all px h = record { number = map_get new n x h.number; adds = adds_map old x new all px h.adds }

pub room_context : (names : Option (List (List ℕ))) (t own : Tree) → IsContext t → IsContext own → IsContext (room_of names t own)
room_context None t own h g = h
room_context (Some names) t own h g = g
