use Rattle.cal_readable.proofs.RecordLemmas.{records-readable}
use Rattle.cal_readable.proofs.laws.readable_records_law.Goals as goal

pub returns : goal.returns
returns c = λ script journal runnable readings. records-readable script journal runnable readings
