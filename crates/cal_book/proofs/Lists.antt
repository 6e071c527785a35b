-- Lists that are read by `slice_get`, with another element at a place, or one more at the end.
use Rattle.std.proofs.Common.{◌≡◌, ◌≢◌, ◌⊎◌, ℕ, zero, suc, Some, List, [], ◌∷◌, ◌++◌, map, length, set, get_or, refl, ap, ◌∙◌, subst, inl, inr, ⊎_elim}
use Rattle.std.specs.List.{slice_get, All}
use Rattle.std.specs.Option.{option_map}
use Rattle.std.proofs.lemmas.Option.{slice_get-map, slice_get_within, get_or_from_slice_get}
use Rattle.std.proofs.lemmas.List.Elements.{All-get_or}
use mathlib.Core.Option.{some, some-injective}
use lib.ListN.{get_elem?}
use Rattle.atomic_table.proofs.Lists as places

module _ {A : Type 0} where
  pub from_place : (l : List A) (i : ℕ) (a : A) → get_elem? l i ≡ some a → slice_get l i ≡ Some a
  from_place [] i a e = absurd cc
  from_place (x ∷ xs) zero a e = ap Some (some-injective x a e)
  from_place (x ∷ xs) (suc i) a e = from_place xs i a e

  pub to_place : (l : List A) (i : ℕ) (a : A) → slice_get l i ≡ Some a → get_elem? l i ≡ some a
  to_place [] i a e = absurd cc
  to_place (x ∷ xs) zero a e = let one : x ≡ a = cc in ap some one
  to_place (x ∷ xs) (suc i) a e = to_place xs i a e

  pub at_set : (l : List A) (i j : ℕ) (a b : A) → slice_get (set l i a) j ≡ Some b
      → ((j ≡ i) × (a ≡ b)) ⊎ ((j ≢ i) × (slice_get l j ≡ Some b))
  at_set l i j a b e = ⊎_elim inl (λ t. inr (t.0, from_place l j b t.1))
      (places.at_set l i j a b (to_place (set l i a) j b e))

  pub set_here : (l : List A) (i : ℕ) (a b : A) → slice_get l i ≡ Some a
      → slice_get (set l i b) i ≡ Some b
  set_here [] i a b e = absurd cc
  set_here (x ∷ xs) zero a b e = refl
  set_here (x ∷ xs) (suc i) a b e = set_here xs i a b e

  pub set_else : (l : List A) (i j : ℕ) (a : A) → j ≢ i → slice_get (set l i a) j ≡ slice_get l j
  set_else [] i j a ne = refl
  set_else (x ∷ xs) zero zero a ne = absurd (ne refl)
  set_else (x ∷ xs) zero (suc j) a ne = refl
  set_else (x ∷ xs) (suc i) zero a ne = refl
  set_else (x ∷ xs) (suc i) (suc j) a ne = set_else xs i j a (λ e. ne (ap suc e))

  pub set_again : (l : List A) (i : ℕ) (a : A) → slice_get l i ≡ Some a → set l i a ≡ l
  set_again l i a e = places.set_again l i a (to_place l i a e)

  pub at_longer : (l m : List A) (i : ℕ) (a : A) → slice_get l i ≡ Some a
      → slice_get (l ++ m) i ≡ Some a
  at_longer [] m i a e = absurd cc
  at_longer (x ∷ xs) m zero a e = e
  at_longer (x ∷ xs) m (suc i) a e = at_longer xs m i a e

  pub at_end : (l : List A) (a b : A) (j : ℕ) → slice_get (l ++ a ∷ []) j ≡ Some b
      → (slice_get l j ≡ Some b) ⊎ ((a ≡ b) × (j ≡ length l))
  at_end [] a b zero e = let one : a ≡ b = cc in inr (one, refl)
  at_end [] a b (suc j) e = absurd cc
  at_end (x ∷ xs) a b zero e = inl e
  at_end (x ∷ xs) a b (suc j) e = ⊎_elim inl (λ t. inr (t.0, ap suc t.1)) (at_end xs a b j e)

  pub at_map : {B : Type 0} (f : B → A) (l : List B) (i : ℕ) (a : A)
      → slice_get (map f l) i ≡ Some a → (b : B) × (slice_get l i ≡ Some b) × (f b ≡ a)
  at_map f [] i a e = absurd cc
  at_map f (x ∷ xs) zero a e = let one : f x ≡ a = cc in (x, refl, one)
  at_map f (x ∷ xs) (suc i) a e = at_map f xs i a e

  pub at_mapped : {B : Type 0} (f : A → B) (l : List A) (i : ℕ) (a : A) → slice_get l i ≡ Some a
      → slice_get (map f l) i ≡ Some (f a)
  at_mapped f l i a e = slice_get-map f l i ∙ ap (option_map f) e

  pub All-at : (P : A → Type 0) (l : List A) (i : ℕ) (a : A) → All P l → slice_get l i ≡ Some a → P a
  All-at P l i a all e = subst P (get_or_from_slice_get l i a a e)
      (All-get_or P l i a (slice_get_within l i a e) all)

  -- a default behind the end changes nothing
  pub get_or-snoc_default : (l : List A) (i : ℕ) (d : A) → get_or (l ++ d ∷ []) i d ≡ get_or l i d
  get_or-snoc_default [] zero d = refl
  get_or-snoc_default [] (suc i) d = refl
  get_or-snoc_default (x ∷ xs) zero d = refl
  get_or-snoc_default (x ∷ xs) (suc i) d = get_or-snoc_default xs i d
