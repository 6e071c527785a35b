-- A line while its texts are appended.
use Rattle.std.specs.Prelude.{◌≡◌, ℕ, zero, suc, List, [], ◌∷◌, ◌++◌, take}
use Rattle.std.specs.List.{join_with_byte}
use Rattle.cal_tabfmt.specs.Grid.{placed_texts, spaces, without_end}
use Rattle.cal_tabfmt.specs.declared.shape.Shape.{Shape}

-- Behind what stood before, an output has a line but for the spaces at its end: these are pending.
pub record HasLine (before out : List ℕ) (pending : ℕ) (line : List ℕ) : Type 0 where
  pub kept : out ≡ before ++ without_end line
  pub all : line ≡ without_end line ++ spaces pending

-- what stands before the k-th text of a line
abbrev pub gap : ℕ → List ℕ
gap zero = []
gap (suc k) = 32 ∷ []

-- the first k texts of a line, in their columns
abbrev pub front_of_line : List Shape → List (List ℕ) → ℕ → List ℕ
front_of_line shapes texts k = join_with_byte 32 (placed_texts shapes (take k texts))
