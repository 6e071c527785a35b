use Rattle.std.proofs.Common.{subst}
use Rattle.std.proofs.lemmas.Result.{IfOk-weaker}
use Rattle.cal_keys.specs.Leading.{Leads}
use Rattle.cal_keys.specs.Trails.{trail}
use Rattle.cal_keys.proofs.ways.way_to_key.Goals as goal

pub returns-clause-leads : goal.returns-clause-leads
returns-clause-leads c = IfOk-weaker c.way_to.result _ _
    (λ n leads. subst (λ r. Leads c.way_to.new.context (trail r) n) c.in_ok-key.ensures leads)
    c.way_to.ensures.leads
