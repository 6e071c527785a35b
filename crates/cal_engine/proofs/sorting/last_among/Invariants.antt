use Rattle.std.proofs.Common.{◌≡◌, take}
use Rattle.std.specs.List.{last_or}
use Rattle.std.specs.Option.{option_copied}
use Rattle.cal_engine.specs.Ranks.{values_of}
use Rattle.cal_engine.proofs.sorting.last_among.Given as goal

abbrev pub invariant-loop-entry : goal.invariant-loop-entry
invariant-loop-entry l =
    option_copied l.last ≡ last_or (option_copied l.fn.before) (values_of l.name (take l.entry-index l.entries))
