use Rattle.std.proofs.Common.{◌≡◌, map, take}
use Rattle.std.specs.Option.{option_copied}
use Rattle.cal_filter.specs.Known.{sought}
use Rattle.cal_filter.specs.Sought.{value_sought}
use Rattle.cal_rowset.specs.NumberedRows.{meant, nth_numbered}
use Rattle.cal_value.specs.Flat.{flat}
use Rattle.cal_engine.proofs.snapshot_order.values_at.Given as goal

abbrev pub invariant-loop-seeker : goal.invariant-loop-seeker
invariant-loop-seeker l =
    map option_copied l.values.items
    ≡ map (λ s. value_sought (sought s) (flat (meant l.context (nth_numbered l.rows l.place)))) (take l.seeker-index l.seekers)
