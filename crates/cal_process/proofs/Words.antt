-- Words of different lines of a list of lists, each counted once.
use Rattle.std.proofs.Common.{◌≡◌, ℕ, zero, suc, ◌+◌, ◌<◌, ◌≤◌, List, [], ◌∷◌, length, take, get_or}
use Rattle.std.proofs.Common.{refl, sym, ap, subst, arith}
use Rattle.std.specs.Prelude.{Some, slice_get, sum_by}
use Rattle.std.specs.List.{All}
use Rattle.std.proofs.lemmas.List.Elements.{All-head, All-tail}
use Rattle.std.proofs.lemmas.List.Sums.{sum_by-cons}

-- an item of a list of lists, by the numbers of both
abbrev pub item_at : {X : Type 0} → X → List (List X) → (row place : ℕ) → X
item_at none rows row place = get_or (get_or rows row []) place none

-- ---- one list

module _ {X : Type 0} (f : X → ℕ) (none : X) (empty : f none ≡ 0) where
  -- the list without the words of an item
  abbrev without : List X → ℕ → List X
  without [] i = []
  without (x ∷ xs) zero = none ∷ xs
  without (x ∷ xs) (suc i) = x ∷ without xs i

  sum-without : (xs : List X) (i : ℕ)
      → sum_by f (without xs i) + f (get_or xs i none) ≡ sum_by f xs
  sum-without [] i = omega (arith, empty)
  sum-without (x ∷ xs) zero =
      omega (arith, sum_by-cons f none xs, sum_by-cons f x xs, empty)
  sum-without (x ∷ xs) (suc i) =
      omega (arith, sum_by-cons f x (without xs i), sum_by-cons f x xs, sum-without xs i)

  other-item : (xs : List X) (i k : ℕ) → ¬ (i ≡ k)
      → get_or (without xs i) k none ≡ get_or xs k none
  other-item [] i k other = refl
  other-item (x ∷ xs) zero zero other = absurd (other refl)
  other-item (x ∷ xs) zero (suc k) other = refl
  other-item (x ∷ xs) (suc i) zero other = refl
  other-item (x ∷ xs) (suc i) (suc k) other = other-item xs i k (λ e. other (ap suc e))

  -- ---- a list of lists

  abbrev clear : List (List X) → (row place : ℕ) → List (List X)
  clear [] row place = []
  clear (r ∷ rows) zero place = without r place ∷ rows
  clear (r ∷ rows) (suc row) place = r ∷ clear rows row place

  sum-clear : (rows : List (List X)) (row place : ℕ)
      → sum_by (sum_by f) (clear rows row place) + f (item_at none rows row place)
      ≡ sum_by (sum_by f) rows
  sum-clear [] row place = omega (arith, empty)
  sum-clear (r ∷ rows) zero place =
      omega (
        arith,
        sum_by-cons (sum_by f) (without r place) rows,
        sum_by-cons (sum_by f) r rows,
        sum-without r place,
      )
  sum-clear (r ∷ rows) (suc row) place =
      omega (
        arith,
        sum_by-cons (sum_by f) r (clear rows row place),
        sum_by-cons (sum_by f) r rows,
        sum-clear rows row place,
      )

  other-clear : (rows : List (List X)) (row place other_row other_place : ℕ)
      → (row ≡ other_row → place ≡ other_place → ⊥)
      → item_at none (clear rows row place) other_row other_place
      ≡ item_at none rows other_row other_place
  other-clear [] row place u k other = refl
  other-clear (r ∷ rows) zero place zero k other = other-item r place k (other refl)
  other-clear (r ∷ rows) zero place (suc u) k other = refl
  other-clear (r ∷ rows) (suc row) place zero k other = refl
  other-clear (r ∷ rows) (suc row) place (suc u) k other =
      other-clear rows row place u k (λ e. other (ap suc e))

  -- Things that stand at different places of the lists have no more words than all lists.
  pub sum-apart : {P : Type 0} (words row place : P → ℕ) (d : P) (ps : List P)
      (rows : List (List X))
      → ((i : ℕ) → i < length ps → words (get_or ps i d)
      ≤ f (item_at none rows (row (get_or ps i d)) (place (get_or ps i d))))
      → ((i k : ℕ) → i < k → k < length ps → row (get_or ps i d) ≡ row (get_or ps k d)
      → place (get_or ps i d) ≡ place (get_or ps k d) → ⊥)
      → sum_by words ps ≤ sum_by (sum_by f) rows
  sum-apart words row place d [] rows each apart = omega arith
  sum-apart words row place d (p ∷ ps) rows each apart =
      let rest = sum-apart words row place d ps (clear rows (row p) (place p))
      (λ i less.
      let q = get_or ps i d in
      subst (λ x. words q ≤ f x)
      (sym (other-clear rows (row p) (place p) (row q) (place q)
      (λ r l. apart 0 (suc i) (omega arith) (omega (arith, less)) r l)))
      (each (suc i) (omega (arith, less))))
      (λ i k less inside. apart (suc i) (suc k) (omega (arith, less)) (omega (arith, inside))) in
      omega (
        arith,
        rest,
        each 0 (omega arith),
        sum-clear rows (row p) (place p),
        sum_by-cons words p ps,
      )

-- ---- the first items of a list

-- the first items, each with no more words than in another counting of them all
pub sum-take : {X : Type 0} (f g : X → ℕ) (P : X → Type 0) → ((x : X) → P x → f x ≤ g x)
    → (xs : List X) → All P xs → (i : ℕ) → sum_by f (take i xs) ≤ sum_by g xs
sum-take f g P most [] all zero = omega arith
sum-take f g P most [] all (suc i) = omega arith
sum-take f g P most (y ∷ ys) all zero = omega arith
sum-take f g P most (y ∷ ys) all (suc i) =
    let rest = sum-take f g P most ys (All-tail P y ys all) i in
    omega (
      arith,
      rest,
      most y (All-head P y ys all),
      sum_by-cons g y ys,
      sum_by-cons f y (take i ys),
    )

-- the first items and the next one, each with no more words than in another counting of them all
pub sum-first : {X : Type 0} (f g : X → ℕ) (P : X → Type 0) → ((x : X) → P x → f x ≤ g x)
    → (xs : List X) → All P xs → (i : ℕ) (x : X) → slice_get xs i ≡ Some x
    → sum_by f (take i xs) + f x ≤ sum_by g xs
sum-first f g P most [] all i x at = absurd cc
sum-first f g P most (y ∷ ys) all zero x at =
    let same : y ≡ x = cc in
    let words = ap f same in
    omega (arith, words, most y (All-head P y ys all), sum_by-cons g y ys)
sum-first f g P most (y ∷ ys) all (suc i) x at =
    let rest = sum-first f g P most ys (All-tail P y ys all) i x at in
    omega (
      arith,
      rest,
      most y (All-head P y ys all),
      sum_by-cons g y ys,
      sum_by-cons f y (take i ys),
    )

sum-suc : {X : Type 0} (f : X → ℕ) (xs : List X) (i : ℕ) (x : X) → slice_get xs i ≡ Some x
    → sum_by f (take (suc i) xs) ≡ sum_by f (take i xs) + f x
sum-suc f [] i x at = absurd cc
sum-suc f (y ∷ ys) zero x at =
    let same : y ≡ x = cc in
    let words = ap f same in
    omega (arith, words, sum_by-cons f y [])
sum-suc f (y ∷ ys) (suc i) x at =
    let rest = sum-suc f ys i x at in
    omega (arith, rest, sum_by-cons f y (take i ys), sum_by-cons f y (take (suc i) ys))

-- the words of the first items grow by those of the next one
pub sum-next : {X : Type 0} (f : X → ℕ) (xs : List X) (i : ℕ) (x : X) → slice_get xs i ≡ Some x
    → sum_by f (take (i + 1) xs) ≡ sum_by f (take i xs) + f x
sum-next f xs i x at =
    let next : suc i ≡ i + 1 = omega arith in
    subst (λ n. sum_by f (take n xs) ≡ sum_by f (take i xs) + f x) next (sum-suc f xs i x at)

-- and are no fewer for one item more, if there is one
sum-suc-more : {X : Type 0} (f : X → ℕ) (xs : List X) (i : ℕ)
    → sum_by f (take i xs) ≤ sum_by f (take (suc i) xs)
sum-suc-more f [] zero = omega arith
sum-suc-more f [] (suc i) = omega arith
sum-suc-more f (y ∷ ys) zero = omega arith
sum-suc-more f (y ∷ ys) (suc i) =
    let rest = sum-suc-more f ys i in
    omega (arith, rest, sum_by-cons f y (take i ys), sum_by-cons f y (take (suc i) ys))

pub sum-more : {X : Type 0} (f : X → ℕ) (xs : List X) (i : ℕ)
    → sum_by f (take i xs) ≤ sum_by f (take (i + 1) xs)
sum-more f xs i =
    let next : suc i ≡ i + 1 = omega arith in
    subst (λ n. sum_by f (take i xs) ≤ sum_by f (take n xs)) next (sum-suc-more f xs i)

pub all-at : {X : Type 0} (P : X → Type 0) (xs : List X) (i : ℕ) (d : X) → All P xs → P d
    → P (get_or xs i d)
all-at P [] i d all none = none
all-at P (x ∷ xs) zero d all none = All-head P x xs all
all-at P (x ∷ xs) (suc i) d all none = all-at P xs i d (All-tail P x xs all) none
