use Rattle.std.proofs.Common.{◌≡◌, fold, take}
use Rattle.cal_parts.specs.Parts.{merged_parts}
use Rattle.cal_engine.proofs.groups.total.Given as goal

abbrev pub invariant-loop-number : goal.invariant-loop-number
invariant-loop-number l = l.total ≡ fold merged_parts l.none (take l.number l.parts)
