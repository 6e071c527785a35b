use Rattle.cal_names.specs.Kept.{IsNameSeat}
use Rattle.tests_naming.proofs.threads.work.Given as goal

abbrev pub invariant-loop-at : goal.invariant-loop-at
invariant-loop-at g l = IsNameSeat l.names l.first
