use Rattle.std.proofs.Common.{ap}
use Rattle.cal_filter.specs.Known.{sought}
use Rattle.cal_filter.specs.Sought.{last_sought}
use Rattle.cal_filter.proofs.Passing.{none_below}
use Rattle.cal_filter.proofs.seeker.Seeker.finds_none_at.Goals as goal

pub returns-in-Some : goal.returns-in-Some
returns-in-Some c = λ k before.
    none_below c.args.context.now c.args.self.now k c.requires.unnamed c.in-Some._link c.args.node c.in-Some.ensures.linked
    (before c.in-Some._link.parent c.in-Some.ensures.linked.child.later)

pub returns-in-None : goal.returns-in-None
returns-in-None c = λ k before. ap (last_sought (sought c.args.self.now)) c.in-None.ensures.root.1
