-- Numbers that rise in an order, as many as there are below a count, are those below it, sorted.
use Rattle.std.proofs.Common.{◌≡◌, ℕ, zero, suc, ◌+◌, ◌<◌, Bool, true, false, List, [], ◌∷◌, ◌++◌}
use Rattle.std.proofs.Common.{◌⊎◌, inl, inr, refl, sym, ap, subst, ◌∙◌, arith, eqb, filter, get_or}
use Rattle.std.proofs.Common.{length, not, true≢false, ◌&&◌}
use Rattle.std.proofs.Math.Decide.{dec_lt}
use Rattle.std.specs.Cmp.{IsStrictWeakOrder, IsTotalOrder}
use Rattle.std.specs.List.{All, IsDistinct, list_any, range_with_len}
use Rattle.std.specs.List.Sorted.{IsStableBy, IsStrictlySortedBy, ties}
use Rattle.std.specs.Ordering.{is_lt, ordering_reverse}
use Rattle.std.specs.declared.cmp.Ordering.{Ordering}
use Rattle.std.specs.declared.cmp.Ordering.TheVariants.{Less, Equal, Greater}
use Rattle.std.proofs.lemmas.Bool.{eqb-true}
use Rattle.std.proofs.lemmas.Cmp.{tied_itself}
use Rattle.std.proofs.lemmas.Grind.{get_or_default_zero}
use Rattle.std.proofs.lemmas.List.Elements.{All-cons, recursion_from_All}
use Rattle.std.proofs.lemmas.List.FromFn.{get_or-range_with_len, length-range_with_len}
use Rattle.std.proofs.lemmas.List.Sorted.{ranks_by}
use Rattle.std.proofs.lemmas.Map.Keys.{IsDistinct-cons, IsDistinct-from_apart, Less-from_sorted}
use Rattle.std.proofs.lemmas.Map.Keys.{sorted_from_all_adjacent}
use Rattle.std.proofs.lemmas.Map.Steps.{length-le_from_distinct_below}
use Rattle.std.proofs.lemmas.Map.Views.{Contains-from_any}
use Rattle.cal_engine.proofs.Sorts.{sorted-unique}
use Rattle.cal_engine.specs.Sorting.{sorted}

-- items that tie are answered Equal
pub tie-Equal : {A : Type 0} (R : A → A → Ordering) → IsTotalOrder R → (x y : A)
    → ties (λ a b. is_lt (R a b)) x y ≡ true → R x y ≡ Equal
tie-Equal R total x y tie = by (R x y) (R y x) (total.antisymm x y) tie
  where
    by : (a b : Ordering) → a ≡ ordering_reverse b → not (is_lt a) && not (is_lt b) ≡ true
        → a ≡ Equal
    by Less b turn tied = absurd (true≢false (sym tied))
    by Equal b turn tied = refl
    by Greater Less turn tied = absurd (true≢false (sym tied))
    by Greater Equal turn tied = turn
    by Greater Greater turn tied = absurd (true≢false (ap is_lt (sym turn)))

is_less : (o : Ordering) → is_lt o ≡ true → o ≡ Less
is_less Less e = refl
is_less Equal e = absurd (true≢false (sym e))
is_less Greater e = absurd (true≢false (sym e))

-- ---- the numbers from 0 on

range_last : (a n j : ℕ) → a + n ≡ j → range_with_len a (suc n) ≡ range_with_len a n ++ j ∷ []
range_last a zero j e = let same : a ≡ j = omega arith in ap (λ k. k ∷ []) same
range_last a (suc n) j e = ap (λ ns. a ∷ ns) (range_last (a + 1) n j (omega arith))

-- one number more
pub range_more : (n j : ℕ) → n ≡ j → range_with_len 0 (n + 1) ≡ range_with_len 0 n ++ j ∷ []
range_more n j e =
    let next : n + 1 ≡ suc n = omega arith in
    ap (range_with_len 0) next ∙ range_last 0 n j (omega arith)

-- ---- what a test keeps, by the places of items

-- no item passes a test
abbrev Fails : (ℕ → Bool) → List ℕ → Type 0
Fails p xs = (i : ℕ) → i < length xs → p (get_or xs i 0) ≡ false

-- an item passes it
abbrev Passes : (ℕ → Bool) → List ℕ → ℕ → Type 0
Passes p xs k = (k < length xs) × (p (get_or xs k 0) ≡ true)

fails-or-passes : (p : ℕ → Bool) (xs : List ℕ) → Fails p xs ⊎ ((k : ℕ) × Passes p xs k)
fails-or-passes p [] = inl (λ i l. absurd (omega (arith, l)))
fails-or-passes p (x ∷ xs) = by (p x) refl (fails-or-passes p xs)
  where
    by : (b : Bool) → p x ≡ b → Fails p xs ⊎ ((k : ℕ) × Passes p xs k)
        → Fails p (x ∷ xs) ⊎ ((k : ℕ) × Passes p (x ∷ xs) k)
    by true e rest = inr (0, (omega arith, e))
    by false e (inl none) = inl at
      where
        at : Fails p (x ∷ xs)
        at zero l = e
        at (suc i) l = none i (omega (arith, l))
    by false e (inr some) = inr (suc some.0, (omega (arith, some.1.0), some.1.1))

filter-none : (p : ℕ → Bool) (xs : List ℕ) → Fails p xs → filter p xs ≡ []
filter-none p [] none = refl
filter-none p (x ∷ xs) none =
    let first : p x ≡ false = none 0 (omega arith) in
    rw first (filter-none p xs (λ i l. none (suc i) (omega (arith, l))))

-- what one item alone passes keeps that item
filter-one : (p : ℕ → Bool) (xs : List ℕ) (k : ℕ) → Passes p xs k
    → ((i : ℕ) → Passes p xs i → i ≡ k) → filter p xs ≡ get_or xs k 0 ∷ []
filter-one p [] k is only = absurd (omega (arith, is.0))
filter-one p (x ∷ xs) zero is only =
    let first : p x ≡ true = is.1 in
    rw first (ap (λ ys. x ∷ ys) (filter-none p xs (λ i l. fails i l (p (get_or xs i 0)) refl)))
  where
    fails : (i : ℕ) → i < length xs → (b : Bool) → p (get_or xs i 0) ≡ b
        → p (get_or xs i 0) ≡ false
    fails i l true e = absurd (omega (arith, only (suc i) (omega (arith, l), e)))
    fails i l false e = e
filter-one p (x ∷ xs) (suc k) is only =
    by (p x) refl (filter-one p xs k (omega (arith, is.0), is.1)
    (λ i other. omega (arith, only (suc i) (omega (arith, other.0), other.1))))
  where
    by : (b : Bool) → p x ≡ b → filter p xs ≡ get_or xs k 0 ∷ []
        → filter p (x ∷ xs) ≡ get_or xs k 0 ∷ []
    by true e rest = absurd (omega (arith, only 0 (omega arith, e)))
    by false e rest = rw e rest

-- ---- numbers that rise

module _ (R : ℕ → ℕ → Ordering) (total : IsTotalOrder R) (n : ℕ) (ys : List ℕ)
    (many : length ys ≡ n) (below : All (λ y. y < n) ys)
    (rising : (k d : ℕ) → k + 1 < length ys
    → is_lt (R (get_or ys k d) (get_or ys (k + 1) d)) ≡ true)
  where
    abbrev lt : ℕ → ℕ → Bool
    lt x y = is_lt (R x y)

    rises : IsStrictlySortedBy R ys
    rises = sorted_from_all_adjacent total ys 0 (λ k l. is_less _ (rising k 0 l))

    distinct : IsDistinct eqb ys
    distinct = IsDistinct-from_apart eqb ys
        (λ i j d l m. by (get_or ys i d) (get_or ys j d) (Less-from_sorted R ys i j d rises l m)
        (eqb (get_or ys i d) (get_or ys j d)) refl)
      where
        by : (x y : ℕ) → R x y ≡ Less → (b : Bool) → eqb x y ≡ b → eqb x y ≡ false
        by x y less true e =
            let same : Less ≡ Equal =
            sym less ∙ sym (ap (R x) (eqb-true x y e)) ∙ tied_itself total x in
            absurd (true≢false (ap is_lt same))
        by x y less false e = e

    -- each number below the count is there, since there would be too many else
    there : (k : ℕ) → k < n → (i : ℕ) × (i < length ys) × (get_or ys i 0 ≡ k)
    there k within = elim (fails-or-passes (eqb k) ys) [
      | inl none ↦ absurd (omega (
        arith,
        many,
        length-le_from_distinct_below (k ∷ ys) n
            (IsDistinct-cons eqb k ys (recursion_from_All (λ y. eqb k y ≡ false) ys
            (λ i d l. ap (eqb k) (get_or_default_zero ys i d l) ∙ none i l)) distinct) bounded,
      ))
      | inr some ↦ (some.0, some.1.0, sym (eqb-true k (get_or ys some.0 0) some.1.1))
    ]
      where
        bounded : (q : ℕ) → list_any (eqb q) (k ∷ ys) ≡ true → q < n
        bounded q e =
            let at = Contains-from_any eqb-true q (k ∷ ys) e in
            subst (λ (m : ℕ). m < n) at.2 (All-cons (λ y. y < n) k ys within below at.0 q at.1)

    -- of items that tie with one, one alone is there
    alone : (x i j : ℕ) → Passes (ties lt x) ys i → Passes (ties lt x) ys j → i < j → ⊥
    alone x i j one other before =
        let first = tie-Equal R total x (get_or ys i 0) one.1 in
        let second = tie-Equal R total x (get_or ys j 0) other.1 in
        let same : Less ≡ Equal =
        sym (Less-from_sorted R ys i j 0 rises before other.0)
        ∙ sym (total.congr x (get_or ys i 0) (get_or ys j 0) first) ∙ second in
        true≢false (ap is_lt same)

    only : (x i j : ℕ) → Passes (ties lt x) ys i → Passes (ties lt x) ys j → i ≡ j
    only x i j one other = elim (dec_lt i j) [
      | yes l ↦ absurd (alone x i j one other l)
      | no l ↦ elim (dec_lt j i) [
        | yes m ↦ absurd (alone x j i other one m)
        | no m ↦ omega arith
      ]
    ]

    -- the number at a place of all numbers is the place
    at_place : (k : ℕ) → k < n → get_or (range_with_len 0 n) k 0 ≡ k
    at_place k l = omega (arith, get_or-range_with_len 0 n k 0 l)

    counted : (k : ℕ) → k < length (range_with_len 0 n) → k < n
    counted k l = omega (arith, l, length-range_with_len 0 n)

    -- so a test that no item passes, no number passes, and one that one item passes, it alone does
    fails_all : (p : ℕ → Bool) → Fails p ys → Fails p (range_with_len 0 n)
    fails_all p none k l =
        let at = there k (counted k l) in
        ap p (at_place k (counted k l) ∙ sym at.2) ∙ none at.0 at.1

    alone_of_all : (x i : ℕ) → Passes (ties lt x) ys i → (k : ℕ)
        → Passes (ties lt x) (range_with_len 0 n) k → k ≡ get_or ys i 0
    alone_of_all x i is k other =
        let within = counted k other.0 in
        let at = there k within in
        sym at.2 ∙ ap (λ m. get_or ys m 0) (only x at.0 i
        (at.1, ap (ties lt x) (at.2 ∙ sym (at_place k within)) ∙ other.1) is)

    stable : IsStableBy lt (range_with_len 0 n) ys
    stable x = elim (fails-or-passes (ties lt x) ys) [
      | inl none ↦ filter-none (ties lt x) ys none
          ∙ sym (filter-none (ties lt x) (range_with_len 0 n) (fails_all (ties lt x) none))
      | inr some ↦
          let y = get_or ys some.0 0 in
          let within : y < n = below some.0 0 some.1.0 in
          let inside : y < length (range_with_len 0 n) =
          omega (arith, within, length-range_with_len 0 n) in
          filter-one (ties lt x) ys some.0 some.1 (λ i is. only x i some.0 is some.1)
          ∙ sym (filter-one (ties lt x) (range_with_len 0 n) y
          (inside, ap (ties lt x) (at_place y within) ∙ some.1.1)
          (alone_of_all x some.0 some.1)
          ∙ ap (λ m. m ∷ []) (at_place y within))
    ]

    pub rising-sorted : ys ≡ sorted R (range_with_len 0 n)
    rising-sorted =
        let weak : IsStrictWeakOrder lt = ranks_by total (λ (x : ℕ). x) in
        sorted-unique R weak (range_with_len 0 n) ys
        (λ k d l m. weak.one_way _ _ (rising k d m)) stable
