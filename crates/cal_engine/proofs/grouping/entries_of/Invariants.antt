use Rattle.std.proofs.Common.{◌≡◌}
use Rattle.cal_value.specs.Flat.{joined}
use Rattle.cal_engine.proofs.grouping.entries_of.Given as goal

abbrev pub invariant-loop-path : goal.invariant-loop-path
invariant-loop-path l = l.entries.items ≡ joined l.yielded
