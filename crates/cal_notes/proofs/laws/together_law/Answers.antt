use Rattle.cal_notes.proofs.Backs.{have-ended}
use Rattle.cal_notes.proofs.Ends.{together}
use Rattle.cal_notes.proofs.laws.together_law.Goals as goal

pub returns-clause-lawful : goal.returns-clause-lawful
returns-clause-lawful c = together

pub returns-clause-ended : goal.returns-clause-ended
returns-clause-ended c = have-ended
