use Rattle.cal_context.specs.Tree.{Grows}
use Rattle.cal_keys.specs.Moves.{AreMovedNodes}
use Rattle.cal_keys.proofs.moving.moved_nodes.Given as goal

abbrev pub invariant-loop-number : goal.invariant-loop-number
invariant-loop-number l = record {
  grows : Grows l.fn.to l.to;
  moved : AreMovedNodes l.from l.to l.moved.items;
}
