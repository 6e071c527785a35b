use Rattle.std.proofs.Common.{◌≤◌, length}
use Rattle.cal_context.specs.Tree.{Grows}
use Rattle.cal_keys.specs.Moves.{AreMovedNodes}
use Rattle.cal_keys.proofs.moving.move_way.Given as goal

abbrev pub invariant-loop-left : goal.invariant-loop-left
invariant-loop-left l = record {
  left : l.left ≤ length l.way;
  grows : Grows l.fn.to l.to;
  moved : AreMovedNodes l.from l.fn.to l.initial.moved.items → AreMovedNodes l.from l.to l.moved.items;
}

abbrev pub decreases-loop-left : goal.decreases-loop-left
decreases-loop-left l = l.left
