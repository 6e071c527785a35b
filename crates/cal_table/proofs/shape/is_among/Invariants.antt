use Rattle.std.proofs.Common.{◌≡◌, false, take}
use Rattle.cal_table.specs.Shapes.{is_among}
use Rattle.cal_table.proofs.shape.is_among.Given as goal

-- none of the names so far is this one
abbrev pub invariant-loop-other : goal.invariant-loop-other
invariant-loop-other l = is_among (take l.other-index l.names) l.name ≡ false
