use Rattle.std.proofs.Common.{◌∙◌}
use Rattle.cal_records.proofs.ForkLemmas.{fork-decides}
use Rattle.cal_records.proofs.comparing.compare_nodes.Goals as goal

pub returns-in-None-None : goal.returns-in-None-None
returns-in-None-None c =
    fork-decides c.args.context.now c.has_each_once.ensures c.args.one c.args.other c.within.result
    c.within-2.result c.fork_of-fork.result _ _ c.within.ensures.same c.within-2.ensures.same
    c.fork_of-fork.ensures c.in-None-None.is-0 c.in-None-None.is-1

pub returns-in-None-Some : goal.returns-in-None-Some
returns-in-None-Some c =
    fork-decides c.args.context.now c.has_each_once.ensures c.args.one c.args.other c.within.result
    c.within-2.result c.fork_of-fork.result _ _ c.within.ensures.same c.within-2.ensures.same
    c.fork_of-fork.ensures c.in-None-Some.is-0 c.in-None-Some.is-1

pub returns-in-Some-None : goal.returns-in-Some-None
returns-in-Some-None c =
    fork-decides c.args.context.now c.has_each_once.ensures c.args.one c.args.other c.within.result
    c.within-2.result c.fork_of-fork.result _ _ c.within.ensures.same c.within-2.ensures.same
    c.fork_of-fork.ensures c.in-Some-None.is-0 c.in-Some-None.is-1

pub returns-in-Some-Some : goal.returns-in-Some-Some
returns-in-Some-Some c =
    c.compare_links.ensures ∙ fork-decides c.args.context.now
    c.has_each_once.ensures c.args.one c.args.other c.within.result
    c.within-2.result c.fork_of-fork.result _ _ c.within.ensures.same c.within-2.ensures.same
    c.fork_of-fork.ensures c.in-Some-Some.is-0 c.in-Some-Some.is-1
