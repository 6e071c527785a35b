use Rattle.std.proofs.Common.{◌∷◌, arith}
use Rattle.cal_keys.proofs.ReadSame.{read_same}
use Rattle.cal_engine.proofs.SnapshotRanking.{ranked_next}
use Rattle.cal_engine.proofs.snapshot_order.ranked_places.Goals as goal

pub loop-place-preserved : goal.loop-place-preserved
loop-place-preserved c =
    ranked_next c.args.context.now c.args.first.now c.args.others.now c.args.rows.now c.args.places.now c.loop-place.place-index
    _ c.loop-place.ranked.items _ (omega arith) (read_same c.args.places.now c.loop-place.place-index _ _ (omega arith))
    c.loop-place.invariant (λ i. c.value_at.ensures i ∷ c.in_ok-values_at.ensures i) c.in_ok-push.ensures.items
