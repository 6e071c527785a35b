use Rattle.std.proofs.Common.{arith}
use Rattle.cal_treefmt.proofs.Ordering.{parents-all, parents-more, parents-none}
use Rattle.cal_treefmt.proofs.order.parents.Goals as goal

pub loop-number-init : goal.loop-number-init
loop-number-init c = parents-none c.args.context.now _ c.in_ok-parents.ensures.items

pub loop-number-preserved : goal.loop-number-preserved
loop-number-preserved c =
    parents-more c.args.context.now c.loop-number.number c.loop-number.parents.items _ c.in_ok-above.above c.has_each_once.ensures (omega (arith, c.loop-number-test.true))
    c.in_ok-push.ensures.items c.loop-number.invariant c.in_ok-above.ensures

pub returns : goal.returns
returns c = parents-all c.args.context.now c.loop-number.number c.loop-number.parents.items c.has_each_once.ensures (omega (arith, c.loop-number-test.false)) c.loop-number.invariant
