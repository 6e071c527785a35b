use Rattle.cal_tree.specs.Seats.{IsTreeSeat}
use Rattle.tests_hand.proofs.trees.wrong_line.Given as goal

abbrev pub invariant-loop-number : goal.invariant-loop-number
invariant-loop-number l = IsTreeSeat l.tree l.seat
