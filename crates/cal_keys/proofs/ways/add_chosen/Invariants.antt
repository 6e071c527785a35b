use Rattle.std.proofs.Common.{◌≡◌, ◌++◌, filter, take}
use Rattle.cal_keys.specs.Trails.{is_chosen}
use Rattle.cal_keys.proofs.ways.add_chosen.Given as goal

abbrev pub invariant-loop-entry : goal.invariant-loop-entry
invariant-loop-entry l =
    l.chosen.items ≡ l.initial.chosen.items ++ filter (is_chosen l.nested) (take l.entry-index l.entries)
