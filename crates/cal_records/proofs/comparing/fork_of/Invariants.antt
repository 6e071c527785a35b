use Rattle.std.proofs.Common.{◌+◌}
use Rattle.cal_records.specs.Forks.{AreTwo, IsAfter, LeadsThrough}
use Rattle.cal_records.proofs.comparing.fork_of.Given as goal

-- each path leads through the node that is reached, and each child comes after the other node
abbrev pub invariant-loop-one : goal.invariant-loop-one
invariant-loop-one l = record {
  one : LeadsThrough l.context l.fn.one l.one l.fork.one;
  other : LeadsThrough l.context l.fn.other l.other l.fork.other;
  one_after : IsAfter l.other l.fork.one;
  other_after : IsAfter l.one l.fork.other;
  two : AreTwo l.fork.one l.fork.other;
}

abbrev pub decreases-loop-one : goal.decreases-loop-one
decreases-loop-one l = l.one.0 + l.other.0
