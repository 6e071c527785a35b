use Rattle.std.proofs.Common.{◌-◌, length}
use Rattle.cal_read.specs.UsualColumns.{ReadsEnds}
use Rattle.cal_read.proofs.usual_columns.push_nodes_at.Given as goal

abbrev pub invariant-loop-place : goal.invariant-loop-place
invariant-loop-place l = ReadsEnds l.nodes l.line l.start l.place l.ends.items

abbrev pub decreases-loop-place : goal.decreases-loop-place
decreases-loop-place l = length l.bytes - l.place
