use Rattle.std.proofs.Common.{◌≡◌, take}
use Rattle.std.specs.List.{All}
use Rattle.cal_context.specs.Tree.{Grows}
use Rattle.cal_delivery.specs.KeyNodes.{IsTableNumbered}
use Rattle.cal_nodes.specs.Numbers.{AreNumbered}
use Rattle.cal_once.specs.Seats.{view}
use Rattle.cal_once.specs.Views.{Learns}
use Rattle.cal_tree.specs.Seats.{IsTreeSeat}
use Rattle.cal_delivery.proofs.numbering.number_tables.Given as goal

-- the keys of the tables so far have their numbers
abbrev pub invariant-loop-table : goal.invariant-loop-table
invariant-loop-table l = record {
  keys : All (IsTableNumbered l.nodes) (take l.table-index l.tables);
  seat : IsTreeSeat l.tree l.seat;
  learns : Learns (view l.fn.seat) (view l.seat);
  grows : Grows l.fn.context l.context;
  attributes : l.context.attributes ≡ l.fn.context.attributes;
  numbered : AreNumbered l.tree l.seat l.context l.nodes;
}
