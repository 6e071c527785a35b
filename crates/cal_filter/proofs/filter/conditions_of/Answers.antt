use Rattle.std.proofs.Common.{arith}
use Rattle.cal_filter.specs.Ready.{IsCondition}
use Rattle.cal_filter.proofs.Zips.{zip_more}
use Rattle.cal_filter.proofs.filter.conditions_of.Goals as goal

pub loop-cond-preserved : goal.loop-cond-preserved
loop-cond-preserved c = λ t.
    zip_more (IsCondition t) c.args.conds.now c.loop-cond.conditions.items c.push.new.self.items
    c.loop-cond.cond-index c.cond-item.result c.in_ok-made.made (c.loop-cond.invariant t)
    (omega arith) c.cond-item.is c.in_ok-push.ensures.items (c.in_ok-made.ensures t)
