use Rattle.cal_events.proofs.StartLemmas.{any-world}
use Rattle.cal_events.proofs.laws.world_law.Goals as goal

pub returns : goal.returns
returns c = any-world
