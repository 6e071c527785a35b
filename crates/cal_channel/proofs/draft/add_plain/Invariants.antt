use Rattle.std.proofs.Common.{◌≡◌, ◌++◌, map, take}
use Rattle.cal_channel.specs.Shown.{plain_entry}
use Rattle.cal_channel.proofs.draft.add_plain.Given as goal

-- the immediates so far have been added
abbrev pub invariant-loop-imm : goal.invariant-loop-imm
invariant-loop-imm l = l.entries.items
    ≡ l.fn.entries.items ++ map plain_entry (take l.imm-index l.imms)
