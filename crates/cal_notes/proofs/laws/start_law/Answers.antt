use Rattle.cal_notes.proofs.NextLines.{starts}
use Rattle.cal_notes.proofs.laws.start_law.Goals as goal

pub returns : goal.returns
returns c = starts
