use Rattle.std.proofs.Common.{◌≡◌, List, take}
use Rattle.cal_context.specs.Taking.{TakesMore}
use Rattle.cal_context.specs.Tree.{Grows}
use Rattle.cal_nodes.specs.Numbers.{AreNumbered, KeepsNumbers}
use Rattle.cal_once.specs.Seats.{view}
use Rattle.cal_once.specs.Views.{Learns}
use Rattle.cal_results.specs.Tracing.{TraceMeans}
use Rattle.cal_tree.specs.Seats.{IsTreeSeat}
use Rattle.cal_value.specs.declared.record.Rec.{Rec}
use Rattle.cal_results.proofs.tracing.take_trace.Given as goal

-- the records that the snapshots so far mean were taken
abbrev pub invariant-loop-place : goal.invariant-loop-place
invariant-loop-place g l = record {
  seat : IsTreeSeat l.tree l.seat;
  learns : Learns (view l.fn.seat) (view l.seat);
  grows : Grows l.fn.context l.context;
  attributes : l.context.attributes ≡ l.fn.context.attributes;
  numbered : AreNumbered l.tree l.seat l.context l.nodes;
  keeps : KeepsNumbers l.fn.nodes l.nodes;
  taken : (recs : List Rec)
      → TraceMeans l.fn.context l.script l.tree l.fn.seat l.trace recs
      → TakesMore (g.T.Taker.has_taken l.fn.taker l.fn.context)
      (g.T.Taker.has_taken l.taker l.context) (take l.place recs);
  about : g.T.Taker.about l.taker ≡ g.T.Taker.about l.fn.taker;
}
