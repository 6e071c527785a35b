use Rattle.cal_journal.proofs.PrintedRuns.{read_back}
use Rattle.cal_journal.proofs.laws.printed_journal_law.Goals as goal

pub returns : goal.returns
returns c = λ journal before holds. read_back before journal holds
