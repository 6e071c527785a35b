-- A sort by the places of nodes keeps rows of one group in their order, so any sort may follow it.
use Rattle.std.proofs.Common.{◌≡◌, Bool, true, false, List, [], ◌∷◌, map, refl, sym, ap, ◌∙◌, Bor, ℕ}
use Rattle.std.proofs.Common.{◌&&◌, arith, filter, get_or, length, nat_lt, not, true≢false}
use Rattle.std.proofs.Math.ListN.{get_or-map}
use Rattle.std.specs.Cmp.{on_total, then_total, tied_itself}
use Rattle.std.specs.Fn.{Called, Mut}
use Rattle.std.specs.List.Sorted.{IsStableBy, IsStableByKeyClosure, ties}
use Rattle.std.specs.Ordering.{is_lt, nat_cmp, ordering_then}
use Rattle.std.specs.declared.cmp.Ordering.{Ordering}
use Rattle.std.specs.declared.cmp.Ordering.TheVariants.{Equal}
use Rattle.std.proofs.lemmas.Bool.{lt-ltb, ltb-false, ltb-true}
use Rattle.std.proofs.lemmas.Fn.{always_returns_same}
use Rattle.std.proofs.lemmas.List.{get_or_past}
use Rattle.cal_context.proofs.CallerLemmas.{one_node, root_path, root_within}
use Rattle.cal_context.specs.Tree.{IsContext, Tree, path_at}
use Rattle.cal_context.specs.declared.numbers.NodeNumber.{NodeNumber}
use Rattle.cal_engine.specs.Making.{key_at}
use Rattle.cal_engine.specs.declared.grouped_rows.GroupedRows.{GroupedRows}
use Rattle.cal_records.proofs.RisingLemmas.{tie-Equal}
use Rattle.cal_records.specs.Likely.{likely_key, node_place, place_in}
use Rattle.cal_records.specs.Ranks.{group_at, numbers_cmp}
use Rattle.cal_records.specs.declared.group_keys.AllKeys.{AllKeys}
use Rattle.cal_value.specs.ExactOrder.{IsExactOrder, nat_exact}
use Rattle.cal_value.specs.Order.{group_cmp}
use Rattle.cal_value.specs.OrderLaws.{group_exact}
use Rattle.cal_value.specs.declared.attribute.Entry.{Entry}
use Rattle.cal_value.specs.declared.record.Rec.{Rec}

-- ---- a sort behind another one

-- of items that a second test keeps, the first keeps what it keeps of all, where it implies it
filter-within : {A : Type 0} (p q : A → Bool) → ((y : A) → p y ≡ true → q y ≡ true)
    → (xs : List A) → filter p (filter q xs) ≡ filter p xs
filter-within p q within [] = refl
filter-within {A} p q within (x ∷ xs) = by (p x) (q x) refl refl (filter-within p q within xs)
  where
    by : (a b : Bool) → p x ≡ a → q x ≡ b → filter p (filter q xs) ≡ filter p xs
        → filter p (filter q (x ∷ xs)) ≡ filter p (x ∷ xs)
    by true true is other rest = grind (arith, is, other, rest)
    by true false is other rest = absurd (true≢false (sym (within x is) ∙ other))
    by false true is other rest = grind (arith, is, other, rest)
    by false false is other rest = grind (arith, is, other, rest)

-- items that tie stay in order in both sorts, where such items tie for the first sort too
stable-behind : {A : Type 0} (first lt : A → A → Bool)
    → ((x y : A) → ties lt x y ≡ true → ties first x y ≡ true)
    → (xs ys zs : List A) → IsStableBy first xs ys → IsStableBy lt ys zs → IsStableBy lt xs zs
stable-behind first lt within xs ys zs one two x =
    two x
    ∙ sym (filter-within (ties lt x) (ties first x) (within x) ys)
    ∙ ap (filter (ties lt x)) (one x)
    ∙ filter-within (ties lt x) (ties first x) (within x) xs

-- values that tie are equal, where the order is exact
tied-equal : {A : Type 0} (R : A → A → Ordering) → IsExactOrder R → (x y : A)
    → ties (λ a b. is_lt (R a b)) x y ≡ true → x ≡ y
tied-equal R exact x y tie = exact.exact x y (tie-Equal R exact.total x y tie)

-- ---- likely places

-- keys are ordered by their first number, then by the second
abbrev pub key_cmp : ℕ × ℕ → ℕ × ℕ → Ordering
key_cmp k m = ordering_then (nat_cmp k.0 m.0) (nat_cmp k.1 m.1)

key-itself : (k : ℕ × ℕ) → key_cmp k k ≡ Equal
key-itself = tied_itself {R = key_cmp} (then_total (on_total (λ (k : ℕ × ℕ). k.0) nat_exact.total)
    (on_total (λ (k : ℕ × ℕ). k.1) nat_exact.total))

abbrev root : NodeNumber
root = record { 0 = 0 }

module _ (t : Tree) (context : IsContext t) (places : List ℕ) where
  root-place : node_place t places root ≡ 0
  root-place = rw (lt-ltb 0 (length t.paths) (root_within context)) refl

  past-place : (n : NodeNumber) → nat_lt n.0 (length t.paths) ≡ false → node_place t places n ≡ 0
  past-place n past = rw past refl

  -- a number of no node has the path of the root, and its place
  past-root : (n m : NodeNumber) → nat_lt n.0 (length t.paths) ≡ true
      → nat_lt m.0 (length t.paths) ≡ false → path_at t n ≡ path_at t m
      → node_place t places n ≡ node_place t places m
  past-root n m within past same =
      ap (node_place t places)
      (one_node context n root (ltb-true n.0 (length t.paths) within) (root_within context)
      (same ∙ get_or_past t.paths m.0 [] (ltb-false m.0 (length t.paths) past)
      ∙ sym (root_path context)))
      ∙ root-place ∙ sym (past-place m past)

  -- numbers of one path have one place
  same-place : (n m : NodeNumber) → path_at t n ≡ path_at t m
      → node_place t places n ≡ node_place t places m
  same-place n m same =
      by (nat_lt n.0 (length t.paths)) (nat_lt m.0 (length t.paths)) refl refl
    where
      by : (a b : Bool) → nat_lt n.0 (length t.paths) ≡ a → nat_lt m.0 (length t.paths) ≡ b
          → node_place t places n ≡ node_place t places m
      by true true is other = ap (node_place t places)
          (one_node context n m (ltb-true n.0 (length t.paths) is)
          (ltb-true m.0 (length t.paths) other) same)
      by true false is other = past-root n m is other same
      by false true is other = sym (past-root m n other is (sym same))
      by false false is other = past-place n is ∙ sym (past-place m other)

  same-place-in : (ns ms : List NodeNumber) → map (path_at t) ns ≡ map (path_at t) ms → (i : ℕ)
      → place_in t places ns i ≡ place_in t places ms i
  same-place-in ns ms same i =
      same-place (get_or ns i root) (get_or ms i root)
      (sym (get_or-map (path_at t) ns i root)
      ∙ ap (λ (paths : List (List Entry)). get_or paths i (path_at t root)) same
      ∙ get_or-map (path_at t) ms i root)

  module _ (g : GroupedRows) (keys : AllKeys) where
    abbrev pub key_of : ℕ → ℕ × ℕ
    key_of n = likely_key t places (key_at g n).paths

    -- rows of one group have one key
    same-key : (x y : ℕ) → group_at t g keys x ≡ group_at t g keys y → key_of x ≡ key_of y
    same-key x y same =
        let paths = ap (λ (r : Rec). r.paths) same in
        let at = same-place-in (key_at g x).paths (key_at g y).paths paths in
        λ i. (at 0 i, at 1 i)

    -- so those that tie by their groups tie by their keys
    tied-keys : (x y : ℕ) → ties (λ a b. is_lt (numbers_cmp t g keys a b)) x y ≡ true
        → ties (λ a b. is_lt (key_cmp (key_of a) (key_of b))) x y ≡ true
    tied-keys x y tie =
        let same = same-key x y
        (tied-equal group_cmp group_exact (group_at t g keys x) (group_at t g keys y) tie) in
        (λ i. not (is_lt (key_cmp (same i) (key_of y))) && not (is_lt (key_cmp (key_of y) (same i))))
        ∙ ap (λ (o : Ordering). not (is_lt o) && not (is_lt o)) (key-itself (key_of y))

    -- rows of one group are left in their order by a sort by keys and one behind it
    pub likely_first : {E : Type 0} {h : Mut E (Bor ℕ × Unit {0}) (ℕ × ℕ)} {e : E}
        (before mid after : List ℕ) → IsStableByKeyClosure h key_cmp e before mid
        → ((a : Bor ℕ × Unit {0}) (k : ℕ × ℕ) (e' : E) → Called h e a k e'
        → (k ≡ key_of a.0.now) × (e' ≡ e))
        → IsStableBy (λ x y. is_lt (numbers_cmp t g keys x y)) mid after
        → IsStableBy (λ x y. is_lt (numbers_cmp t g keys x y)) before after
    likely_first {h = h} {e = e} before mid after stable answers second =
        stable-behind (λ x y. is_lt (key_cmp (key_of x) (key_of y)))
        (λ x y. is_lt (numbers_cmp t g keys x y)) tied-keys before mid after
        (stable key_of (always_returns_same h (λ a k. k ≡ key_of a.0.now) e answers)) second
