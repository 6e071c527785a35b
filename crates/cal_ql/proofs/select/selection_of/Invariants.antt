use Rattle.std.proofs.Common.{◌≡◌, ◌++◌}
use Rattle.std.specs.Prelude.{map}
use Rattle.std.specs.List.{filter_map}
use Rattle.std.specs.Vec.Iter.{into_iter_items}
use Rattle.cal_ql.specs.Kernels.{item_of, kernel_of}
use Rattle.cal_ql.proofs.select.selection_of.Given as goal

-- what was taken, and what is left, are all
abbrev pub invariant-loop-pick : goal.invariant-loop-pick
invariant-loop-pick l =
    (l.items ++ map item_of (into_iter_items l.pick-iterator) ≡ map item_of l.fn.picked)
    × (l.aggs ++ filter_map kernel_of (into_iter_items l.pick-iterator) ≡ filter_map kernel_of l.fn.picked)
