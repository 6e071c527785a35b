use Rattle.std.proofs.Common.{take}
use Rattle.cal_value.specs.declared.record.Rec.{Rec}
use Rattle.cal_rowset.specs.Showing.{ShowsRow}
use Rattle.cal_jsonfmt.specs.Writing.{WritesEach}
use Rattle.cal_jsonfmt.proofs.ObjectLemmas.{texts_of}
use Rattle.cal_jsonfmt.proofs.members.write_object.Given as goal

-- the members of the keys so far
abbrev pub invariant-loop-place : goal.invariant-loop-place
invariant-loop-place l = (row : Rec) → ShowsRow l.shown l.columns row
    → WritesEach l.initial.writer l.writer (texts_of l.columns row (take l.place l.keys) (take l.place l.chosen))
