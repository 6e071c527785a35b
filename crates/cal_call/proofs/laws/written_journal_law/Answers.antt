use Rattle.cal_call.proofs.Again.{said_again}
use Rattle.cal_call.proofs.laws.written_journal_law.Goals as goal

pub returns : goal.returns
returns c = said_again c.journal_behind_script_law.ensures
