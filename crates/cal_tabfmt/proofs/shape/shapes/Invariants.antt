use Rattle.std.proofs.Common.{◌≡◌, take}
use Rattle.cal_tabfmt.specs.Grid.{shapes}
use Rattle.cal_tabfmt.proofs.shape.shapes.Given as goal

abbrev pub invariant-loop-place : goal.invariant-loop-place
invariant-loop-place l = l.made.items ≡ shapes l.lines 0 (take l.place l.rights)
