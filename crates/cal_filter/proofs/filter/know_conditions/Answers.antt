use Rattle.std.proofs.Common.{arith, refl, slice_set, subst, sym}
use Rattle.cal_filter.specs.Replaced.{ConditionCatchesUp}
use Rattle.cal_filter.proofs.Zips.{replace_all, replace_next}
use Rattle.cal_filter.proofs.filter.know_conditions.Goals as goal

pub loop-condition-preserved : goal.loop-condition-preserved
loop-condition-preserved c =
    replace_next (ConditionCatchesUp c.args.context.now) c.args.conditions.now c.loop-condition.conditions
    (slice_set c.loop-condition.conditions c.loop-condition.condition-index c.catch_up.new.self)
    c.loop-condition.condition-index c.condition-item.result c.catch_up.new.self c.loop-condition.invariant
    (omega arith) c.condition-item.is refl
    (subst (λ x. ConditionCatchesUp c.args.context.now x c.catch_up.new.self) (sym c.condition-item.is)
    c.in_ok-catch_up.ensures)

pub returns : goal.returns
returns c =
    replace_all (ConditionCatchesUp c.args.context.now) c.args.conditions.now c.loop-condition.conditions
    c.loop-condition.condition-index c.loop-condition.invariant (omega arith)
