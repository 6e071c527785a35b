use Rattle.std.proofs.Common.{◌≡◌, map, take}
use Rattle.cal_context.specs.Snapshots.{entry_of}
use Rattle.cal_context.proofs.expansion.expand_immediates.Given as goal

abbrev pub invariant-loop-imm : goal.invariant-loop-imm
invariant-loop-imm l = l.entries.items ≡ map (entry_of l.context) (take l.imm-index l.imms)
