use Rattle.cal_filter.specs.Replaced.{CatchesUpByNumbers}
use Rattle.cal_filter.proofs.Zips.{Replacing}
use Rattle.cal_filter.proofs.filter.catch_up_definitions.Given as goal

-- those before this one have caught up
abbrev pub invariant-loop-definition : goal.invariant-loop-definition
invariant-loop-definition l =
    Replacing (CatchesUpByNumbers l.context l.latest) l.fn.definitions l.definition-index
    l.definitions
