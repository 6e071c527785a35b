use Rattle.std.proofs.Common.{◌-◌, length}
use Rattle.cal_line.proofs.TextSteps.{Unescaped}
use Rattle.cal_line.proofs.unescaping.append_spelled.Given as goal

abbrev pub invariant-loop-place : goal.invariant-loop-place
invariant-loop-place l = Unescaped l.written l.fn.out l.out l.run l.place

abbrev pub decreases-loop-place : goal.decreases-loop-place
decreases-loop-place l = length l.written - l.place
