use Rattle.cal_filter.specs.Replaced.{ConditionCatchesUp}
use Rattle.cal_filter.proofs.Zips.{Replacing}
use Rattle.cal_filter.proofs.filter.know_conditions.Given as goal

-- those before this one have caught up
abbrev pub invariant-loop-condition : goal.invariant-loop-condition
invariant-loop-condition l =
    Replacing (ConditionCatchesUp l.context) l.fn.conditions l.condition-index l.conditions
