use Rattle.cal_context.specs.Tree.{Grows}
use Rattle.cal_keys.specs.Moves.{AreMovedNodes}
use Rattle.cal_engine.proofs.joining.move_imms.Given as goal

abbrev pub invariant-loop-number : goal.invariant-loop-number
invariant-loop-number l = record {
  grows : Grows l.fn.to l.to;
  moved : AreMovedNodes l.from l.fn.to l.initial.moved.items → AreMovedNodes l.from l.to l.moved.items;
}
