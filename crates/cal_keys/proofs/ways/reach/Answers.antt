use Rattle.std.proofs.Common.{[]}
use Rattle.cal_keys.proofs.Reaching.{leads-none}
use Rattle.cal_keys.proofs.ways.reach.Goals as goal

pub returns-clause-leads : goal.returns-clause-leads
returns-clause-leads c = c.in_ok-node.ensures.leads [] (leads-none c.args.context.now c.has_each_once.ensures)
