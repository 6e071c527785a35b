use Rattle.std.proofs.Common.{◌≡◌, map, take}
use Rattle.cal_records.specs.Ranks.{key_entries, lent_entries}
use Rattle.cal_records.proofs.group_keys.group_keys.Given as goal

-- the immediates of the groups so far
abbrev pub invariant-loop-number : goal.invariant-loop-number
invariant-loop-number l = map lent_entries l.each.items
    ≡ map (key_entries l.room l.aggs) (take l.number l.rows.groups.keys)
