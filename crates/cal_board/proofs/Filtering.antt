-- What a test keeps of a list whose items pass it up to a place, or from a place on.
use Rattle.std.proofs.Common.{◌≡◌, ℕ, ◌+◌, ◌<◌, ◌≤◌, ◌≢◌, List, [], ◌∷◌, ◌++◌, Bool, true, false, cond, length, get_or, take, drop, filter, ap, ◌∙◌, arith, suc, zero, refl, set, ◌-◌}
use Rattle.std.proofs.lemmas.List.{drop_all, length-append, append-nil}
use Rattle.std.proofs.Math.Seq.{take-append_seam}
use Rattle.cal_board.specs.Slots.{front}
use Rattle.std.specs.List.{AllPairs, All}
use Rattle.std.proofs.lemmas.List.Elements.{All-append}
use Rattle.std.proofs.lemmas.List.Kept.{AllPairs-cons}

module _ {A : Type 0} (test : A → Bool) where
  -- what passes up to a place, and not from there on
  pub filter-front : (xs : List A) (p : ℕ) → p ≤ length xs
      → ((i : ℕ) (d : A) → i < p → test (get_or xs i d) ≡ true)
      → ((i : ℕ) (d : A) → p ≤ i → i < length xs → test (get_or xs i d) ≡ false)
      → filter test xs ≡ take p xs
  filter-front [] zero l h g = refl
  filter-front [] (suc p) l h g = refl
  filter-front (x ∷ xs) zero l h g =
      ap (λ b. cond b (x ∷ filter test xs) (filter test xs)) (g 0 x (omega arith) (omega arith))
      ∙ filter-front xs zero (omega arith) (λ i d e. absurd (omega (arith, e))) (λ i d e f. g (suc i) d (omega arith) (omega (arith, f)))
  filter-front (x ∷ xs) (suc p) l h g =
      ap (λ b. cond b (x ∷ filter test xs) (filter test xs)) (h 0 x (omega arith))
      ∙ ap (λ ys. x ∷ ys) (filter-front xs p (omega (arith, l)) (λ i d e. h (suc i) d (omega (arith, e))) (λ i d e f. g (suc i) d (omega (arith, e)) (omega (arith, f))))

  -- what passes from a place on, and not before
  pub filter-back : (xs : List A) (p : ℕ) → p ≤ length xs
      → ((i : ℕ) (d : A) → i < p → test (get_or xs i d) ≡ false)
      → ((i : ℕ) (d : A) → p ≤ i → i < length xs → test (get_or xs i d) ≡ true)
      → filter test xs ≡ drop p xs
  filter-back [] zero l h g = refl
  filter-back [] (suc p) l h g = refl
  filter-back (x ∷ xs) zero l h g =
      ap (λ b. cond b (x ∷ filter test xs) (filter test xs)) (g 0 x (omega arith) (omega arith))
      ∙ ap (λ ys. x ∷ ys) (filter-back xs zero (omega arith) (λ i d e. absurd (omega (arith, e))) (λ i d e f. g (suc i) d (omega arith) (omega (arith, f))))
  filter-back (x ∷ xs) (suc p) l h g =
      ap (λ b. cond b (x ∷ filter test xs) (filter test xs)) (h 0 x (omega arith))
      ∙ filter-back xs p (omega (arith, l)) (λ i d e. h (suc i) d (omega (arith, e))) (λ i d e f. g (suc i) d (omega (arith, e)) (omega (arith, f)))

-- pairs of two lists, one behind the other
pub AllPairs-append : {A : Type 0} (R : A → A → Type 0) (xs ys : List A)
    → AllPairs R xs → AllPairs R ys
    → ((i j : ℕ) (d : A) → i < length xs → j < length ys → R (get_or xs i d) (get_or ys j d))
    → AllPairs R (xs ++ ys)
AllPairs-append R [] ys h g across = g
AllPairs-append {A} R (x ∷ xs) ys h g across =
    AllPairs-cons R x (xs ++ ys) first
    (AllPairs-append R xs ys (λ i j d l m. h (suc i) (suc j) d (omega (arith, l)) (omega (arith, m))) g (λ i j d l m. across (suc i) j d (omega (arith, l)) m))
  where
    first : All (R x) (xs ++ ys)
    first = All-append (R x) xs ys (λ j d l. h 0 (suc j) d (omega arith) (omega (arith, l))) (λ j d l. across 0 j d (omega arith) l)

-- an item changed, between those before it and those after it
pub set_is : {A : Type 0} (xs : List A) (p : ℕ) (y : A) → p < length xs
    → set xs p y ≡ take p xs ++ (y ∷ []) ++ drop (suc p) xs
set_is [] p y l = absurd (omega (arith, l))
set_is (x ∷ xs) zero y l = refl
set_is (x ∷ xs) (suc p) y l = ap (λ ys. x ∷ ys) (set_is xs p y (omega (arith, l)))

-- the front of a list with an item pushed
pub front-push : {A : Type 0} (xs : List A) (x : A) → front (xs ++ x ∷ []) ≡ xs
front-push xs x = ap (λ n. take n (xs ++ x ∷ [])) count ∙ take-append_seam xs (x ∷ [])
  where
    count : length (xs ++ x ∷ []) - 1 ≡ length xs
    count = omega (arith, length-append xs (x ∷ []))

-- the last item changed
pub set_last_is : {A : Type 0} (xs : List A) (y : A) → 0 < length xs
    → set xs (length xs - 1) y ≡ front xs ++ y ∷ []
set_last_is xs y l =
    set_is xs (length xs - 1) y (omega (arith, l))
    ∙ ap (λ ys. take (length xs - 1) xs ++ (y ∷ []) ++ ys) (drop_all (suc (length xs - 1)) xs (omega (arith, l)))
    ∙ append-nil (take (length xs - 1) xs ++ y ∷ [])
