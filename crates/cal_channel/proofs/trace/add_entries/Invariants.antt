use Rattle.std.proofs.Common.{◌≡◌, ◌++◌, take}
use Rattle.cal_channel.proofs.trace.add_entries.Given as goal

-- the entries so far have been added
abbrev pub invariant-loop-entry : goal.invariant-loop-entry
invariant-loop-entry l = l.entries ≡ l.fn.entries ++ take l.entry-index l.more
