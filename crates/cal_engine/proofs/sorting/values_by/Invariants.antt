use Rattle.std.proofs.Common.{◌≡◌, map, take}
use Rattle.cal_engine.specs.Sorting.{value_named}
use Rattle.cal_engine.proofs.sorting.values_by.Given as goal

abbrev pub invariant-loop-key : goal.invariant-loop-key
invariant-loop-key l = l.values.items ≡ map (λ key. value_named key.name l.row) (take l.key-index l.order)
