use Rattle.std.proofs.Common.{◌≡◌, ◌≤◌, ◌++◌, length, reverse, vec_len}
use Rattle.cal_crew.specs.Shifts.{clocks_of, runners_of}
use Rattle.cal_crew.proofs.running.pair.Given as goal

-- those so far are paired, and the others are left, turned round
abbrev pub invariant-loop-runner : goal.invariant-loop-runner
invariant-loop-runner g l = record {
  runners : runners_of l.shifts.items ++ reverse l.runners.items ≡ l.fn.runners.items;
  clocks : clocks_of l.shifts.items ++ reverse l.clocks.items ≡ l.fn.clocks.items;
  enough : length l.runners.items ≤ length l.clocks.items;
}

abbrev pub decreases-loop-runner : goal.decreases-loop-runner
decreases-loop-runner g l = vec_len l.runners
