use Rattle.std.proofs.Common.{◌≡◌, take}
use Rattle.cal_table.specs.Snapshots.{last_number}
use Rattle.cal_table.proofs.draft.last_number.Given as goal

-- the last number so far
abbrev pub invariant-loop-entry : goal.invariant-loop-entry
invariant-loop-entry l = l.last ≡ last_number l.flags (take l.entry-index l.imms)
