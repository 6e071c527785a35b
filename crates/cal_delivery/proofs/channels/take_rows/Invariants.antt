use Rattle.std.proofs.Common.{List, take, ◌≡◌}
use Rattle.std.specs.List.{flat_map}
use Rattle.cal_channel.specs.Places.{lists_of}
use Rattle.cal_context.specs.Taking.{TakesMore}
use Rattle.cal_context.specs.Tree.{Grows}
use Rattle.cal_delivery.specs.Taken.{IsTaken, rows_of}
use Rattle.cal_nodes.specs.Numbers.{AreNumbered}
use Rattle.cal_once.specs.Seats.{view}
use Rattle.cal_once.specs.Views.{Learns}
use Rattle.cal_script.specs.declared.script.Channel.{Channel}
use Rattle.cal_tree.specs.Seats.{IsTreeSeat}
use Rattle.cal_value.specs.declared.record.Rec.{Rec}
use Rattle.cal_delivery.proofs.channels.take_rows.Given as goal

-- the rows of the channels so far were taken
abbrev pub invariant-loop-place : goal.invariant-loop-place
invariant-loop-place g l = record {
  seat : IsTreeSeat l.tree l.seat;
  learns : Learns (view l.fn.seat) (view l.seat);
  grows : Grows l.fn.context l.context;
  numbered : AreNumbered l.tree l.seat l.context l.nodes;
  taken : (of : Channel → List Rec)
      → IsTaken l.script l.tree l.fn.seat l.fn.context of (lists_of l.channels)
      (lists_of l.tables)
      → TakesMore (g.T.Taker.has_taken l.fn.taker l.fn.context)
      (g.T.Taker.has_taken l.taker l.context)
      (flat_map (λ (c : Channel). rows_of c (of c)) (take l.place l.script.channels));
  about : g.T.Taker.about l.taker ≡ g.T.Taker.about l.fn.taker;
}
