use Rattle.cal_run.proofs.PlainLawLemmas.{plain-lawful, plain-read}
use Rattle.cal_run.proofs.laws.plain_journal_law.Goals as goal

pub returns-clause-lawful : goal.returns-clause-lawful
returns-clause-lawful c = plain-lawful

pub returns-clause-read : goal.returns-clause-read
returns-clause-read c = plain-read
