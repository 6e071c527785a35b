use Rattle.cal_nodes.proofs.Climbing.{IsClimbed}
use Rattle.cal_once.specs.Seats.{view}
use Rattle.cal_once.specs.Views.{Learns}
use Rattle.cal_tree.specs.Seats.{IsKnownNode, IsTreeSeat}
use Rattle.cal_nodes.proofs.way.Way.climb.Given as goal

-- the way has come so far, and the seat knows the next node
abbrev pub invariant-loop-up : goal.invariant-loop-up
invariant-loop-up l = record {
  seat : IsTreeSeat l.tree l.seat;
  learns : Learns (view l.fn.seat) (view l.seat);
  known : IsKnownNode l.tree l.seat l.up.parent.0;
  climbed : IsClimbed l.tree l.seat l.fn.node l.self.steps.items l.up;
}

abbrev pub decreases-loop-up : goal.decreases-loop-up
decreases-loop-up l = l.up.depth
