use Rattle.std.proofs.Common.{◌≡◌, arith}
use Rattle.cal_engine.specs.Gates.{AreSmallBefore}
use Rattle.cal_engine.proofs.Gating.{small_next}
use Rattle.cal_engine.proofs.gate.are_small_from.Goals as goal

pub loop-place-preserved : goal.loop-place-preserved
loop-place-preserved c = λ before.
    let e : c.in-Ok.number ≡ c.loop-place.place = omega arith in
    let known : AreSmallBefore c.args.context.now c.in-Ok.number = λ m l. c.loop-place.invariant before m (omega (arith, l, e)) in
    small_next c.args.context.now c.loop-place.place (record { 0 = c.in-Ok.number }) e
    (c.has_small_entry.ensures c.if-not-has_small_entry.false known) (c.loop-place.invariant before)
