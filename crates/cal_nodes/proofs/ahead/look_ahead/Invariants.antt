use Rattle.cal_once.specs.Seats.{view}
use Rattle.cal_once.specs.Views.{Learns}
use Rattle.cal_tree.specs.Seats.{IsTreeSeat}
use Rattle.cal_nodes.proofs.ahead.look_ahead.Given as goal

-- the seat has only learned
abbrev pub invariant-loop-next : goal.invariant-loop-next
invariant-loop-next l = record {
  seat : IsTreeSeat l.tree l.seat;
  learns : Learns (view l.fn.seat) (view l.seat);
}
