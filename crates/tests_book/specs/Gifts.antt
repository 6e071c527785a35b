use Rattle.std.specs.Prelude.{◌≡◌, ℕ, Bool, true, false, List, [], ◌∷◌}
use Rattle.cal_book.specs.declared.view.View.{View}
use Rattle.tests_book.specs.declared.tally.Tally.{Tally}

-- what was given: a count, or nothing
abbrev pub gift : ℕ → Bool → List Tally
gift count true = record { shape = 7; count = count; refuses = false } ∷ []
gift count false = []

-- the seat is as it was, but that it gave the count or didn't
pub record Gave (v w : View Tally ℕ) (count : ℕ) (merged : Bool) : Type 0 where
  pub shape : w.shape ≡ v.shape
  pub thread : w.thread ≡ v.thread
  pub others : w.others ≡ v.others
  pub given : w.account.given ≡ gift count merged
