use Rattle.std.proofs.Common.{take}
use Rattle.std.specs.List.{All}
use Rattle.cal_rowset.specs.NumberedRows.{IsWithin}
use Rattle.cal_keys.proofs.within.are_in.Given as goal

-- the rows so far are about the context
abbrev pub invariant-loop-place : goal.invariant-loop-place
invariant-loop-place l = All (IsWithin l.context) (take l.place l.rows)
