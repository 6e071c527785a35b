use Rattle.cal_call_live.proofs.Unbusy.{no_journal-quiet}
use Rattle.cal_call_live.proofs.living.live.Goals as goal

pub returns-in-Err-clause-quiet : goal.returns-in-Err-clause-quiet
returns-in-Err-clause-quiet g c = rw c.without_journal.ensures.journal no_journal-quiet
