use Rattle.std.proofs.Common.{take}
use Rattle.cal_value.specs.Flat.{flat}
use Rattle.cal_context.specs.Snapshots.{meaning}
use Rattle.cal_tabfmt.specs.Parts.{HasParts}
use Rattle.cal_rowset.specs.Filling.{Holds, names, used}
use Rattle.cal_tabfmt.proofs.PlaceLemmas.{parts_at}
use Rattle.cal_tabfmt.proofs.writer.append_line.Given as goal

abbrev pub invariant-loop-place : goal.invariant-loop-place
invariant-loop-place l = Holds l.trail (flat (meaning l.context l.snapshot))
    → HasParts l.fn.out l.out l.is_first (parts_at (meaning l.context l.snapshot) (names l.trail) (take l.place-index (used l.trail)))
