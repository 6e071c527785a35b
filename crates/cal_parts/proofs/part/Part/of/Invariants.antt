use Rattle.std.proofs.Common.{◌≡◌, take}
use Rattle.cal_parts.specs.Parts.{part_over}
use Rattle.cal_parts.proofs.part.Part.of.Given as goal

abbrev pub invariant-loop-number : goal.invariant-loop-number
invariant-loop-number l = l.part ≡ part_over l.kernel (take l.number-index l.numbers)
