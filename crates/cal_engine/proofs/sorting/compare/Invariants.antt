use Rattle.std.proofs.Common.{◌≡◌, drop}
use Rattle.cal_engine.specs.Ranks.{values_cmp}
use Rattle.cal_engine.proofs.sorting.compare.Given as goal

abbrev pub invariant-loop-place : goal.invariant-loop-place
invariant-loop-place l =
    values_cmp l.order l.one l.other
    ≡ values_cmp (drop l.place l.order) (drop l.place l.one) (drop l.place l.other)
