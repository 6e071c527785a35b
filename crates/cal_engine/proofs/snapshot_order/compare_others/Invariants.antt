use Rattle.std.proofs.Common.{◌≡◌, drop}
use Rattle.cal_engine.specs.Ranks.{values_cmp}
use Rattle.cal_engine.specs.SnapshotRanks.{others_in}
use Rattle.cal_engine.proofs.snapshot_order.compare_others.Given as goal

abbrev pub invariant-loop-place : goal.invariant-loop-place
invariant-loop-place l =
    values_cmp l.order (others_in l.one) (others_in l.other)
    ≡ values_cmp (drop l.place l.order) (drop l.place (others_in l.one)) (drop l.place (others_in l.other))
