use Rattle.std.proofs.Common.{◌≡◌, filter, take}
use Rattle.cal_table.specs.Snapshots.{is_flagged}
use Rattle.cal_table.proofs.draft.fill_imms.Given as goal

-- what is kept are the flagged ones of the entries so far
abbrev pub invariant-loop-entry : goal.invariant-loop-entry
invariant-loop-entry l = l.kept ≡ filter (is_flagged l.keys) (take l.entry-index l.imms)
