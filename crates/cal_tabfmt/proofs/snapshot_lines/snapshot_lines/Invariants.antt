use Rattle.std.proofs.Common.{map, take}
use Rattle.cal_rowset.specs.NumberedRows.{in_order, meant}
use Rattle.cal_tabfmt.specs.Writer.{HasTaken}
use Rattle.cal_tabfmt.proofs.snapshot_lines.snapshot_lines.Given as goal

-- the rows so far are taken
abbrev pub invariant-loop-place : goal.invariant-loop-place
invariant-loop-place l =
    HasTaken l.writer l.context (map (meant l.context) (in_order l.rows (take l.place-index l.order)))
