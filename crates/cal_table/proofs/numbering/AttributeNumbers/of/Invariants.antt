use Rattle.std.proofs.Common.{◌≡◌, take}
use Rattle.cal_table.proofs.numbering.AttributeNumbers.of.Given as goal

-- the attributes so far are those of the list so far
abbrev pub invariant-loop-attr : goal.invariant-loop-attr
invariant-loop-attr l = l.attributes.keys ≡ take l.attr-index l.attrs
