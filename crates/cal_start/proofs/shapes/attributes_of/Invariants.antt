use Rattle.std.proofs.Common.{◌≡◌, take}
use Rattle.cal_start.proofs.shapes.attributes_of.Given as goal

-- those of the numbers before this one are copied
abbrev pub invariant-loop-number : goal.invariant-loop-number
invariant-loop-number l = l.attributes.items ≡ take l.number l.context.attributes
