use Rattle.std.proofs.Common.{◌≡◌}
use Rattle.std.specs.List.{list_any}
use Rattle.cal_value.specs.Flat.{flat}
use Rattle.cal_trigger.specs.Deciding.{speaks_of}
use Rattle.cal_trigger.specs.Named.{slow_condition}
use Rattle.cal_trigger.proofs.slow.is_slow.Given as goal

-- what is asked of all entries is asked of those that are left
abbrev pub invariant-loop-entry : goal.invariant-loop-entry
invariant-loop-entry l =
    list_any (speaks_of slow_condition) l.entry-iterator ≡ list_any (speaks_of slow_condition) (flat l.rec)
