use Rattle.cal_notes.proofs.Histories.{begins-with, seen-known}
use Rattle.cal_notes.proofs.laws.whole_history_law.Goals as goal

pub returns-clause-known : goal.returns-clause-known
returns-clause-known c = seen-known

pub returns-clause-own : goal.returns-clause-own
returns-clause-own c = begins-with
