use Rattle.cal_world.proofs.FrontLemmas.{any-history}
use Rattle.cal_world.proofs.laws.history_law.Goals as goal

pub returns : goal.returns
returns c = any-history
