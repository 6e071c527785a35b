use Rattle.std.proofs.Common.{◌≡◌, map, take}
use Rattle.cal_tabfmt.specs.Tables.{shape_of}
use Rattle.cal_tabfmt.proofs.held.shapes_of.Given as goal

abbrev pub invariant-loop-held : goal.invariant-loop-held
invariant-loop-held l = l.shapes.items ≡ map shape_of (take l.held-index l.all)
