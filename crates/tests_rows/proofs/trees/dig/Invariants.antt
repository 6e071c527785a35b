use Rattle.cal_tree.specs.Seats.{IsKnownNode, IsTreeSeat}
use Rattle.tests_rows.proofs.trees.dig.Given as goal

abbrev pub invariant-loop-level : goal.invariant-loop-level
invariant-loop-level l = IsTreeSeat l.tree l.seat × IsKnownNode l.tree l.seat l.node.0
