use Rattle.cal_events.proofs.EndLemmas.{ended-world}
use Rattle.cal_events.proofs.laws.ended_world_law.Goals as goal

pub returns : goal.returns
returns c = ended-world
