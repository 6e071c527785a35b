use Rattle.cal_valid.proofs.Runnable.{valid_runnable}
use Rattle.cal_valid.proofs.laws.valid_script_law.Goals as goal

pub returns : goal.returns
returns c = valid_runnable
