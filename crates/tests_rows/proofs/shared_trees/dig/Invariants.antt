use Rattle.cal_tree.specs.Seats.{IsKnownNode, IsTreeSeat}
use Rattle.tests_rows.proofs.shared_trees.dig.Given as goal

abbrev pub invariant-loop-attr : goal.invariant-loop-attr
invariant-loop-attr l = IsTreeSeat l.tree l.worker.seat × IsKnownNode l.tree l.worker.seat l.node.0
