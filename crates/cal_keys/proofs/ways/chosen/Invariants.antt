use Rattle.std.proofs.Common.{◌≡◌, filter, take}
use Rattle.cal_value.specs.Flat.{joined}
use Rattle.cal_keys.specs.Trails.{is_chosen}
use Rattle.cal_keys.proofs.ways.chosen.Given as goal

abbrev pub invariant-loop-path : goal.invariant-loop-path
invariant-loop-path l =
    l.entries.items ≡ filter (is_chosen l.nested) (joined (take l.path-index l.key.paths))
