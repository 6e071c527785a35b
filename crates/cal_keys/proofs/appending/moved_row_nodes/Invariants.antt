use Rattle.cal_context.specs.Tree.{Grows}
use Rattle.cal_keys.specs.Moves.{AreMovedNodes}
use Rattle.cal_keys.proofs.appending.moved_row_nodes.Given as goal

abbrev pub invariant-loop-place : goal.invariant-loop-place
invariant-loop-place l = record {
  grows : Grows l.fn.to l.to;
  moved : AreMovedNodes l.from l.to l.moved.items;
}
