use Rattle.cal_line.proofs.Written.{IsFields-written}
use Rattle.cal_line.proofs.laws.written_fields_are_read.Goals as goal

pub returns : goal.returns
returns c = IsFields-written
