use Rattle.std.proofs.Common.{take}
use Rattle.cal_value.specs.Flat.{flat}
use Rattle.cal_value.specs.declared.record.Rec.{Rec}
use Rattle.cal_rowset.specs.Cells.{values}
use Rattle.cal_rowset.specs.Filling.{Holds, Shows, names, used}
use Rattle.cal_rowset.specs.Hierarchy.{hierarchy as hierarchy_of}
use Rattle.cal_tabfmt.specs.Parts.{HasParts}
use Rattle.cal_tabfmt.proofs.PlaceLemmas.{parts_at}
use Rattle.cal_tabfmt.proofs.lines.append_own_line.Given as goal

abbrev pub invariant-loop-place : goal.invariant-loop-place
invariant-loop-place l = (row : Rec) → Holds l.cells (flat row) → Shows l.hierarchy (values (hierarchy_of row))
    → HasParts l.fn.out l.out l.is_first (parts_at row (names l.cells) (take l.place-index (used l.cells)))
