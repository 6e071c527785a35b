use Rattle.std.proofs.Common.{◌≡◌, ◌++◌, filter, map, take}
use Rattle.cal_channel.specs.Shown.{numbered_entry}
use Rattle.cal_channel.specs.Looked.{is_looked_at}
use Rattle.cal_channel.proofs.draft.number_entries.Given as goal

-- those of the entries so far that the table looks at have been added
abbrev pub invariant-loop-entry : goal.invariant-loop-entry
invariant-loop-entry l = l.imms.items ≡ l.fn.imms.items
    ++ filter (is_looked_at l.table.shape)
    (map (numbered_entry l.script.values) (take l.entry-index l.more))
