-- A list round a place that is read.
use Rattle.std.proofs.Common.{◌≡◌, ℕ, zero, suc, ◌+◌, ◌<◌, ◌==◌, true, false, true≢false, List, [], ◌∷◌, ◌++◌, length, take, drop, Some, refl, sym, ap, ◌∙◌, add-one, arith}
use Rattle.std.proofs.lemmas.Bool.Decides.{Decides-eqb}
use Rattle.std.specs.Prelude.{slice_get}
use Rattle.std.proofs.Math.Seq.{take-suc, drop-cons}
use Rattle.std.proofs.lemmas.Option.{get_or_from_slice_get, slice_get_within}

module _ {A : Type 0} (xs : List A) (i : ℕ) (x : A) (at : slice_get xs i ≡ Some x) where
  pub drop_at : drop i xs ≡ x ∷ drop (i + 1) xs
  drop_at = rw add-one (drop-cons xs i x (slice_get_within xs i x at) ∙ ap (λ y. y ∷ drop (suc i) xs) (get_or_from_slice_get xs i x x at))

  pub take_at : take (i + 1) xs ≡ take i xs ++ x ∷ []
  take_at = rw add-one (take-suc xs i x (slice_get_within xs i x at) ∙ ap (λ y. take i xs ++ y ∷ []) (get_or_from_slice_get xs i x x at))

-- a list that a test of another finds empty, or not
nothing : {A : Type 0} (xs : List A) → length xs ≡ 0 → xs ≡ []
nothing [] h = refl
nothing (x ∷ xs) h = absurd (omega (arith, h))

pub none_there : {A : Type 0} (xs ys : List A) → ys ≡ xs → true ≡ (length ys == 0) → xs ≡ []
none_there xs ys same test = nothing xs (ap length (sym same) ∙ (Decides-eqb (length ys) 0).0 (sym test))

something : (n : ℕ) → (n ≡ 0 → ⊥) → 0 < n
something zero h = absurd (h refl)
something (suc n) h = omega arith

pub some_there : {A : Type 0} (xs ys : List A) → ys ≡ xs → false ≡ (length ys == 0) → 0 < length xs
some_there xs ys same test = something (length xs) (λ none. true≢false (sym (test ∙ (Decides-eqb (length ys) 0).1 (ap length same ∙ none))))
