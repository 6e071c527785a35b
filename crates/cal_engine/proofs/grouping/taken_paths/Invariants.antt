use Rattle.std.proofs.Common.{◌≡◌, ◌++◌, true, filter, drop}
use Rattle.cal_keys.specs.Groups.{has_entries, taken}
use Rattle.cal_engine.proofs.grouping.taken_paths.Given as goal

abbrev pub invariant-loop-name : goal.invariant-loop-name
invariant-loop-name l =
    l.paths.items ++ filter has_entries (taken true (drop l.name-index l.names) l.left.items)
    ≡ filter has_entries (taken true l.names l.initial.left.items)
