use Rattle.std.proofs.Common.{◌≡◌, ◌++◌, reverse, vec_len}
use Rattle.cal_crew.specs.Shifts.{clocks_of, runners_of}
use Rattle.cal_crew.proofs.running.part.Given as goal

-- those so far are parted, and stand turned round behind the others
abbrev pub invariant-loop-shift : goal.invariant-loop-shift
invariant-loop-shift g l = record {
  runners : runners_of l.shifts.items ++ reverse l.done.items ≡ runners_of l.fn.shifts.items;
  clocks : clocks_of l.shifts.items ++ reverse l.clocks.items
      ≡ clocks_of l.fn.shifts.items ++ reverse l.fn.clocks.items;
}

abbrev pub decreases-loop-shift : goal.decreases-loop-shift
decreases-loop-shift g l = vec_len l.shifts
