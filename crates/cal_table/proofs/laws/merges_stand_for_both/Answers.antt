use Rattle.cal_table.proofs.Standing.{StandsFor-merged}
use Rattle.cal_table.proofs.laws.merges_stand_for_both.Goals as goal

pub returns : goal.returns
returns c = StandsFor-merged
