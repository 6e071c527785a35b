use Rattle.std.proofs.Common.{◌≡◌, length, take}
use Rattle.cal_rowset.specs.Filling.{AreCleared}
use Rattle.cal_rowset.proofs.cells.clear_used.Given as goal

-- the places so far are cleared
abbrev pub invariant-loop-place : goal.invariant-loop-place
invariant-loop-place l = record {
  counted : length l.cells.items ≡ length l.fn.cells.items;
  cleared : AreCleared l.fn.cells.items l.cells.items (take l.place-index l.used);
}
