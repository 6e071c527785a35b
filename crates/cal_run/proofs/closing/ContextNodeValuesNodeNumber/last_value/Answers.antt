use Rattle.cal_run.proofs.ServiceLemmas.{last-linked}
use Rattle.cal_run.proofs.closing.ContextNodeValuesNodeNumber.last_value.Goals as goal

pub returns-in-Some : goal.returns-in-Some
returns-in-Some c = λ values has path stands.
    last-linked c.args.self.now c.args.node.now c.in-Some.link values _ c.in-Some.ensures.linked
    c.value_at.ensures path stands
