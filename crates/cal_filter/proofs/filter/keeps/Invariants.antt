use Rattle.std.proofs.Common.{◌≡◌, List, true, take}
use Rattle.std.specs.List.{AllZip, list_all}
use Rattle.cal_context.specs.Snapshots.{meaning}
use Rattle.cal_ql.specs.declared.query.Cond.{Cond}
use Rattle.cal_filter.specs.Conditions.{cond_holds}
use Rattle.cal_filter.specs.Ready.{IsReadyCondition}
use Rattle.cal_filter.proofs.filter.keeps.Given as goal

-- the conditions before this one hold
abbrev pub invariant-loop-condition : goal.invariant-loop-condition
invariant-loop-condition l = (conds : List Cond)
    → AllZip (IsReadyCondition l.context) conds l.conditions
    → list_all (λ c. cond_holds c (meaning l.context l.snapshot)) (take l.condition-index conds)
    ≡ true
