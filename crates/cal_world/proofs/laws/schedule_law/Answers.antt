use Rattle.cal_world.proofs.RunLemmas.{whole-run}
use Rattle.cal_world.proofs.laws.schedule_law.Goals as goal

pub returns : goal.returns
returns c = whole-run
