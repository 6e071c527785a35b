use Rattle.std.proofs.Common.{take}
use Rattle.std.specs.List.{AllZip}
use Rattle.cal_context.specs.Tree.{Tree}
use Rattle.cal_filter.specs.Ready.{IsCondition}
use Rattle.cal_filter.proofs.filter.conditions_of.Given as goal

-- the conditions before this one are made
abbrev pub invariant-loop-cond : goal.invariant-loop-cond
invariant-loop-cond l =
    (t : Tree) → AllZip (IsCondition t) (take l.cond-index l.conds) l.conditions.items
