use Rattle.std.specs.Prelude.{◌≡◌, ℕ, ◌<◌, List, [], ◌∷◌, ◌++◌, ◌⊎◌, Some}
use Rattle.std.specs.Prelude.{length, slice_get, slice_index_or}
use Rattle.std.specs.List.{Contains}

-- no two places of a list have one item
abbrev pub AreApart : {A : Type 0} → List A → Type 0
AreApart {A} xs = (i j : ℕ) (d : A) → i < length xs → j < length xs
    → slice_index_or xs i d ≡ slice_index_or xs j d → i ≡ j

-- a list begins with these items
abbrev pub IsFront : {A : Type 0} → List A → List A → Type 0
IsFront {A} xs ys = (more : List A) × (ys ≡ xs ++ more)

-- A list that has each item once takes one more: it stays where the item is there, and else the
-- item goes last.
abbrev pub Adds : {A : Type 0} → List A → A → List A → Type 0
Adds old x new = (Contains old x × (new ≡ old)) ⊎ (¬ Contains old x × (new ≡ old ++ x ∷ []))

-- the item is added, and has this number
pub record Interns {A : Type 0} (old : List A) (x : A) (new : List A) (n : ℕ) : Type 0 where
  pub number : slice_get new n ≡ Some x
  pub adds : Adds old x new
