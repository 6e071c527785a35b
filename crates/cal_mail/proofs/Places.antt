-- Lists that are read by `get_elem?`, with another element at a place, or one more at the end.
use Rattle.std.proofs.Common.{◌≡◌, ◌≢◌, ◌⊎◌, ℕ, zero, suc, ◌<◌, List, [], ◌∷◌, ◌++◌, length, get_or, set, refl, ap, inl, inr, ⊎_elim, arith}
use mathlib.Core.Option.{some, some-injective}
use lib.ListN.{get_elem?}

module _ {A : Type 0} where
  -- a place that has an element lies within the list
  pub at_below : (l : List A) (a : A) (j : ℕ) → get_elem? l j ≡ some a → j < length l
  at_below [] a j e = absurd cc
  at_below (x ∷ xs) a zero e = omega arith
  at_below (x ∷ xs) a (suc j) e = let r = at_below xs a j e in omega arith

  -- a place within the list has an element
  pub some_at : (l : List A) (j : ℕ) → j < length l → (a : A) × (get_elem? l j ≡ some a)
  some_at [] j h = absurd (omega arith)
  some_at (x ∷ xs) zero h = (x, refl)
  some_at (x ∷ xs) (suc j) h = some_at xs j (omega arith)

  -- a place of a list with one element more: it is one of before, or the last
  pub at_end : (l : List A) (a b : A) (j : ℕ) → get_elem? (l ++ a ∷ []) j ≡ some b → ((get_elem? l j ≡ some b) × (j < length l)) ⊎ ((a ≡ b) × (j ≡ length l))
  at_end [] a b zero e = inr (some-injective a b e, refl)
  at_end [] a b (suc j) e = absurd cc
  at_end (x ∷ xs) a b zero e = inl (e, omega arith)
  at_end (x ∷ xs) a b (suc j) e = ⊎_elim (λ t. let h = t.1 in inl (t.0, omega arith)) (λ t. inr (t.0, ap suc t.1)) (at_end xs a b j e)

  -- a place of a list with one element more, by what stands before and behind: it is the last, or
  -- one of before
  pub split_last : (before : List A) (one : A) (after l : List A) (last : A) → before ++ one ∷ after ≡ l ++ last ∷ [] → ((before ≡ l) × (one ≡ last)) ⊎ ((rest : List A) × (before ++ one ∷ rest ≡ l))
  split_last [] one after [] last e = let same : one ≡ last = cc in inl (refl, same)
  split_last [] one after (y ∷ ys) last e = let same : one ≡ y = cc in inr (ys, ap (λ (z : A). z ∷ ys) same)
  split_last (x ∷ []) one after [] last e = absurd cc
  split_last (x ∷ z ∷ zs) one after [] last e = absurd cc
  split_last (x ∷ xs) one after (y ∷ ys) last e =
      let head : x ≡ y = cc in
      let tail : xs ++ one ∷ after ≡ ys ++ last ∷ [] = cc in
      ⊎_elim (λ t. inl ((λ i. head i ∷ t.0 i), t.1)) (λ t. inr (t.0, λ i. head i ∷ t.1 i)) (split_last xs one after ys last tail)

  -- a list that isn't empty isn't the default
  pub at_some : (l : List (List A)) (j : ℕ) (before : List A) (one : A) (after : List A) → get_or l j [] ≡ before ++ one ∷ after → get_elem? l j ≡ some (before ++ one ∷ after)
  at_some [] j [] one after e = absurd cc
  at_some [] j (y ∷ ys) one after e = absurd cc
  at_some (x ∷ xs) zero before one after e = ap some e
  at_some (x ∷ xs) (suc j) before one after e = at_some xs j before one after e

  pub get_or-snoc-nil : (l : List (List A)) (j : ℕ) → get_or (l ++ [] ∷ []) j [] ≡ get_or l j []
  get_or-snoc-nil [] zero = refl
  get_or-snoc-nil [] (suc j) = refl
  get_or-snoc-nil (x ∷ xs) zero = refl
  get_or-snoc-nil (x ∷ xs) (suc j) = get_or-snoc-nil xs j

  pub get_or-here : (l : List (List A)) (j : ℕ) (a : List A) → get_elem? l j ≡ some a → get_or l j [] ≡ a
  get_or-here [] j a e = absurd cc
  get_or-here (x ∷ xs) zero a e = some-injective x a e
  get_or-here (x ∷ xs) (suc j) a e = get_or-here xs j a e

  pub get_or-set-here : (l : List (List A)) (j : ℕ) (a b : List A) → get_elem? l j ≡ some a → get_or (set l j b) j [] ≡ b
  get_or-set-here [] j a b e = absurd cc
  get_or-set-here (x ∷ xs) zero a b e = refl
  get_or-set-here (x ∷ xs) (suc j) a b e = get_or-set-here xs j a b e

  pub get_or-set-else : (l : List A) (i j : ℕ) (b d : A) → j ≢ i → get_or (set l i b) j d ≡ get_or l j d
  get_or-set-else [] i j b d ne = refl
  get_or-set-else (x ∷ xs) zero zero b d ne = absurd (ne refl)
  get_or-set-else (x ∷ xs) zero (suc j) b d ne = refl
  get_or-set-else (x ∷ xs) (suc i) zero b d ne = refl
  get_or-set-else (x ∷ xs) (suc i) (suc j) b d ne = get_or-set-else xs i j b d (λ e. ne (ap suc e))
