use Rattle.std.proofs.Common.{◌≡◌, ◌-◌}
use Rattle.cal_once.specs.Seats.{view}
use Rattle.cal_once.specs.Views.{Learns}
use Rattle.cal_tree.specs.Seats.{IsTreeSeat, slots_of}
use Rattle.cal_tree.proofs.Walks.{IsWalked}
use Rattle.cal_tree.proofs.tree.Tree.path.Given as goal

-- the walk has come so many steps up
abbrev pub invariant-loop-step : goal.invariant-loop-step
invariant-loop-step l = record {
  seat : IsTreeSeat l.self l.seat;
  learns : Learns (view l.fn.seat) (view l.seat);
  walk : IsWalked (slots_of l.self) (view l.seat) l.fn.attrs l.fn.node.0 l.at.0 (l.depth - l._step) l.entries.items;
}
