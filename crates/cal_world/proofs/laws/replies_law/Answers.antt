use Rattle.cal_world.proofs.ReplyLemmas.{accepted-all, looking-all}
use Rattle.cal_world.proofs.laws.replies_law.Goals as goal

pub returns-clause-accepted : goal.returns-clause-accepted
returns-clause-accepted c = accepted-all

pub returns-clause-looking : goal.returns-clause-looking
returns-clause-looking c = looking-all
