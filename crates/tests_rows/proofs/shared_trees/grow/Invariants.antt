use Rattle.cal_tree.specs.Seats.{IsTreeSeat}
use Rattle.tests_rows.proofs.shared_trees.grow.Given as goal

abbrev pub invariant-loop-way : goal.invariant-loop-way
invariant-loop-way l = IsTreeSeat l.tree l.worker.seat
