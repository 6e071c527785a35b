use Rattle.std.proofs.Common.{◌-◌, length}
use Rattle.cal_line.specs.Steps.{PushesValues, EndsAtMark}
use Rattle.cal_line.proofs.splitter.push_values.Given as goal

-- The values so far are pushed, and a piece ends here.
abbrev pub invariant-loop-place : goal.invariant-loop-place
invariant-loop-place l =
    record {
      pushes : PushesValues l.line l.start l.fn.values.items l.values.items l.place;
      stop : EndsAtMark l.line l.place;
    }

abbrev pub decreases-loop-place : goal.decreases-loop-place
decreases-loop-place l = length l.line - l.place
