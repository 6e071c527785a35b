use Rattle.std.proofs.Common.{◌-◌, length}
use Rattle.cal_line.proofs.LineSteps.{ReadsFields}
use Rattle.cal_line.proofs.splitter.push_fields.Given as goal

abbrev pub invariant-loop-place : goal.invariant-loop-place
invariant-loop-place l = ReadsFields l.line l.values.items l.fields.items l.place

abbrev pub decreases-loop-place : goal.decreases-loop-place
decreases-loop-place l = length l.line - l.place
