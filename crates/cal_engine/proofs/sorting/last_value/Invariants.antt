use Rattle.std.proofs.Common.{◌≡◌, None, take}
use Rattle.std.specs.List.{last_or}
use Rattle.std.specs.Option.{option_copied}
use Rattle.cal_value.specs.Flat.{joined}
use Rattle.cal_engine.specs.Ranks.{values_of}
use Rattle.cal_engine.proofs.sorting.last_value.Given as goal

abbrev pub invariant-loop-path : goal.invariant-loop-path
invariant-loop-path l =
    option_copied l.last ≡ last_or None (values_of l.name (joined (take l.path-index l.row.paths)))
