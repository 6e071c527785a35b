use Rattle.std.proofs.Common.{arith}
use Rattle.cal_filter.specs.Known.{sought}
use Rattle.cal_filter.proofs.Passing.{none_known, one_more}
use Rattle.cal_filter.proofs.seeker.Seeker.finds_none.Goals as goal

pub loop-place-init : goal.loop-place-init
loop-place-init c = λ k n short.
    none_known c.args.context.now c.args.self.now k c.has_each_once.ensures c.requires.nowhere n (omega (arith, short, c.len-place.ensures))

pub loop-place-preserved : goal.loop-place-preserved
loop-place-preserved c = λ k.
    one_more c.args.context.now (sought c.args.self.now) c.loop-place.place (c.loop-place.invariant k)
    (c.finds_none_at.ensures k (c.loop-place.invariant k))
