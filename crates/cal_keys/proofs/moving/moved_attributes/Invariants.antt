use Rattle.std.proofs.Common.{◌≡◌, length}
use Rattle.cal_context.specs.Tree.{Grows}
use Rattle.cal_keys.specs.Moves.{AreMovedAttributes}
use Rattle.cal_keys.proofs.moving.moved_attributes.Given as goal

abbrev pub invariant-loop-place : goal.invariant-loop-place
invariant-loop-place l = record {
  grows : Grows l.fn.to l.to;
  counted : length l.moved.items ≡ l.place;
  moved : AreMovedAttributes l.from l.to l.moved.items;
}
