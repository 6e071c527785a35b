use Rattle.cal_tree.specs.Seats.{IsKnownNode, IsTreeSeat}
use Rattle.bench.proofs.tree.grow.Given as goal

abbrev pub invariant-loop-value : goal.invariant-loop-value
invariant-loop-value l = IsTreeSeat l.tree l.seat × IsKnownNode l.tree l.seat l.parent.0
