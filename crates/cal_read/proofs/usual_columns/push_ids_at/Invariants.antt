use Rattle.std.proofs.Common.{◌-◌, length}
use Rattle.cal_read.specs.Usual.{ReadsIds}
use Rattle.cal_read.proofs.usual_columns.push_ids_at.Given as goal

abbrev pub invariant-loop-place : goal.invariant-loop-place
invariant-loop-place l = ReadsIds l.line l.start l.place l.ids.items

abbrev pub decreases-loop-place : goal.decreases-loop-place
decreases-loop-place l = length l.bytes - l.place
