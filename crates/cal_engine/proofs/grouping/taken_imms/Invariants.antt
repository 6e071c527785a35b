use Rattle.std.proofs.Common.{◌≡◌, ◌++◌, false, drop}
use Rattle.cal_value.specs.Flat.{joined}
use Rattle.cal_keys.specs.Groups.{taken}
use Rattle.cal_engine.proofs.grouping.taken_imms.Given as goal

abbrev pub invariant-loop-name : goal.invariant-loop-name
invariant-loop-name l =
    l.imms.items ++ joined (taken false (drop l.name-index l.names) l.left.items)
    ≡ joined (taken false l.names l.initial.left.items)
