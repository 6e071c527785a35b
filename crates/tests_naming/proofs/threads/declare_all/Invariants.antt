use Rattle.cal_names.specs.Kept.{IsNameSeat}
use Rattle.tests_naming.proofs.threads.declare_all.Given as goal

abbrev pub invariant-loop-at : goal.invariant-loop-at
invariant-loop-at l = IsNameSeat l.names l.worker.seat
