use Rattle.std.proofs.Common.{◌≡◌, ◌<◌, ℕ, get_or}
use Rattle.cal_context.specs.Tree.{Grows}
use Rattle.cal_nodes.specs.Numbers.{AddsWays, AreNumbered, IsNumbered, KeepsNumbers}
use Rattle.cal_once.specs.Seats.{view}
use Rattle.cal_once.specs.Views.{Learns}
use Rattle.cal_tree.specs.Seats.{IsTreeSeat}
use Rattle.cal_words.specs.declared.node.NodeId.{NodeId}
use Rattle.cal_nodes.proofs.context_nodes.ContextNodes.number_all.Given as goal

-- all so far have their numbers
abbrev pub invariant-loop-place : goal.invariant-loop-place
invariant-loop-place l = record {
  seat : IsTreeSeat l.tree l.seat;
  learns : Learns (view l.fn.seat) (view l.seat);
  grows : Grows l.fn.context l.context;
  attributes : l.context.attributes ≡ l.fn.context.attributes;
  numbered : AreNumbered l.tree l.seat l.context l.self;
  keeps : KeepsNumbers l.fn.self l.self;
  only : AddsWays l.tree l.seat l.context l.fn.context l.nodes;
  all : (k : ℕ) (d : NodeId) → k < l.place → IsNumbered l.self (get_or l.nodes k d);
}
