use Rattle.std.specs.Prelude.{List, ◌++◌}
use Rattle.cal_value.specs.declared.record.Rec.{Rec}

-- These records are taken: whatever had been taken before, with them at the end it has been now.
abbrev pub TakesMore : (List Rec → Type 0) → (List Rec → Type 0) → List Rec → Type 0
TakesMore had has more = (rs : List Rec) → had rs → has (rs ++ more)
