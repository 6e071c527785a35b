use Rattle.std.proofs.Common.{◌≡◌, map, take}
use Rattle.cal_groups.specs.Keys.{immediate_of}
use Rattle.cal_groups.proofs.keys.put_entries.Given as goal

-- the immediates of the entries so far
abbrev pub invariant-loop-entry : goal.invariant-loop-entry
invariant-loop-entry l = l.imms.items ≡ map immediate_of (take l.entry-index l.entries)
