use Rattle.cal_run.proofs.LawLemmas.{lawful-read}
use Rattle.cal_run.proofs.laws.lawful_journal_law.Goals as goal

pub returns : goal.returns
returns c = lawful-read
