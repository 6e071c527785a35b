use Rattle.cal_filter.specs.Replaced.{CatchesUp}
use Rattle.cal_filter.proofs.Zips.{Replacing}
use Rattle.cal_filter.proofs.operands.catch_up_all.Given as goal

-- those before this one have caught up
abbrev pub invariant-loop-seeker : goal.invariant-loop-seeker
invariant-loop-seeker l =
    Replacing (CatchesUp l.context) l.fn.seekers l.seeker-index l.seekers
