use Rattle.cal_events.proofs.EndLemmas.{whole-world}
use Rattle.cal_events.proofs.laws.scheduled_world_law.Goals as goal

pub returns : goal.returns
returns c = whole-world
