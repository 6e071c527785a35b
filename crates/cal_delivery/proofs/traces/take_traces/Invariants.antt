use Rattle.std.proofs.Common.{List, take, ◌≡◌}
use Rattle.std.specs.List.{flat_map}
use Rattle.cal_channel.specs.Places.{at_place, lists_of}
use Rattle.cal_context.specs.Taking.{TakesMore}
use Rattle.cal_context.specs.Tree.{Grows}
use Rattle.cal_delivery.specs.OneChannel.{IsTakenIn}
use Rattle.cal_nodes.specs.Numbers.{AreNumbered}
use Rattle.cal_once.specs.Seats.{view}
use Rattle.cal_once.specs.Views.{Learns}
use Rattle.cal_table.specs.Tables.{TableValue}
use Rattle.cal_tree.specs.Seats.{IsTreeSeat}
use Rattle.cal_value.specs.declared.record.Rec.{Rec}
use Rattle.cal_delivery.proofs.traces.take_traces.Given as goal

-- what the threads so far have taken was taken
abbrev pub invariant-loop-own : goal.invariant-loop-own
invariant-loop-own g l = record {
  seat : IsTreeSeat l.tree l.seat;
  learns : Learns (view l.fn.seat) (view l.seat);
  grows : Grows l.fn.context l.context;
  numbered : AreNumbered l.tree l.seat l.context l.nodes;
  taken : (tables : List TableValue) (recs : List Rec)
      (h : IsTakenIn l.fn.context l.script l.tree l.fn.seat l.channel
      (at_place l.place (lists_of l.channels)) tables recs)
      → TakesMore (g.T.Taker.has_taken l.fn.taker l.fn.context)
      (g.T.Taker.has_taken l.taker l.context)
      (flat_map (λ (part : List Rec). part) (take l.own-index h.taken.takens));
  about : g.T.Taker.about l.taker ≡ g.T.Taker.about l.fn.taker;
}
