-- Fields that were found by their keys (private).
use Rattle.std.specs.Prelude.{ℕ, List, [], Option, Some, None}
use Rattle.cal_line.specs.declared.field.Field.{Field}

-- the values of a field, if there is one
abbrev pub values_in : Option Field → List (List ℕ)
values_in None = []
values_in (Some field) = field.values
