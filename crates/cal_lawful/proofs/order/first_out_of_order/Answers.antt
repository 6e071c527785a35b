use Rattle.std.proofs.Common.{take}
use Rattle.cal_lawful.proofs.OrderLemmas.{breaks-order, counted-more}
use Rattle.cal_lawful.proofs.order.first_out_of_order.Goals as goal

pub returns-then-not-take_next : goal.returns-then-not-take_next
returns-then-not-take_next c =
    breaks-order c.args.script.now c.args.ops.now c.loop-place.place _ c.loop-place-test.true
    c.loop-place.counts c.loop-place.invariant
    (c.take_next.ensures.not (take c.loop-place.place c.args.ops.now) c.loop-place.invariant
    c.if-not-take_next.true)

pub loop-place-preserved : goal.loop-place-preserved
loop-place-preserved c =
    counted-more c.args.script.now c.args.ops.now c.loop-place.place _ c.loop-place-test.true
    c.loop-place.counts c.loop-place.invariant
    c.take_next.new.counts
    (c.take_next.ensures.taken (take c.loop-place.place c.args.ops.now) c.loop-place.invariant
    c.if-not-take_next.false)
