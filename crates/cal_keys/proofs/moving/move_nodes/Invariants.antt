use Rattle.cal_context.specs.Tree.{Grows}
use Rattle.cal_keys.specs.Moves.{AreMovedNodes}
use Rattle.cal_keys.proofs.moving.move_nodes.Given as goal

abbrev pub invariant-loop-node : goal.invariant-loop-node
invariant-loop-node l = record {
  grows : Grows l.fn.to l.to;
  moved : AreMovedNodes l.from l.fn.to l.initial.moved.items → AreMovedNodes l.from l.to l.moved.items;
}
