use Rattle.cal_read.proofs.ReadLemmas.{HasRead-Grows}
use Rattle.cal_read.proofs.laws.readings_stay.Goals as goal

pub returns : goal.returns
returns c = HasRead-Grows
