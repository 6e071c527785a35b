use Rattle.cal_tree.specs.Seats.{IsTreeSeat}
use Rattle.tests_rows.proofs.trees.add_all.Given as goal

abbrev pub invariant-loop-text : goal.invariant-loop-text
invariant-loop-text l = IsTreeSeat l.tree l.seat
