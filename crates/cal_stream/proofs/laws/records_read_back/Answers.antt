use Rattle.cal_stream.proofs.ReadsBack.{reads-back}
use Rattle.cal_stream.proofs.laws.records_read_back.Goals as goal

pub returns : goal.returns
returns c = reads-back
