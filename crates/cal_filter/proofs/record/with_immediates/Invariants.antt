use Rattle.std.proofs.Common.{◌≡◌, ◌++◌, map, take}
use Rattle.cal_context.specs.Snapshots.{entry_of}
use Rattle.cal_filter.proofs.record.with_immediates.Given as goal

-- the entries of the immediates before this one stand at the end
abbrev pub invariant-loop-imm : goal.invariant-loop-imm
invariant-loop-imm l =
    l.entries ≡ l.fn.rec.imms ++ map (entry_of l.context) (take l.imm-index l.imms)
