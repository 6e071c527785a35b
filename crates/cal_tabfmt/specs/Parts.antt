-- A plain line while its parts are appended.
use Rattle.std.specs.Prelude.{◌≡◌, ℕ, Bool, true, false, List, [], ◌∷◌, ◌++◌, map}
use Rattle.std.specs.List.{join_with_byte}
use Rattle.cal_line.specs.Escapes.{escaped}
use Rattle.cal_rowset.specs.declared.rowset.Column.{Column}

-- what stands before the text of each part in a column
abbrev pub part_front : List ℕ → List ℕ
part_front header = escaped header ++ 61 ∷ []

abbrev pub column_fronts : List Column → List (List ℕ)
column_fronts columns = map (λ column. part_front column.header) columns

-- whether there is no part
abbrev pub no_part : List (List ℕ) → Bool
no_part [] = true
no_part (part ∷ parts) = false

-- behind what stood before, a text has these parts of a line, and the next one is the first
pub record HasParts (before text : List ℕ) (is_first : Bool) (parts : List (List ℕ)) : Type 0 where
  pub is : text ≡ before ++ join_with_byte 44 parts
  pub first : is_first ≡ no_part parts
