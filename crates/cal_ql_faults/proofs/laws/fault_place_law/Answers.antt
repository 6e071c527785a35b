use Rattle.cal_ql_faults.proofs.WholeFaults.{found_at}
use Rattle.cal_ql_faults.proofs.laws.fault_place_law.Goals as goal

pub returns : goal.returns
returns c = found_at
