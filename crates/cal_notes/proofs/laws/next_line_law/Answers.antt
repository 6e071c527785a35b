use Rattle.cal_notes.proofs.NextLines.{noted-next, rules-next, state-next}
use Rattle.cal_notes.proofs.laws.next_line_law.Goals as goal

pub returns-clause-rules : goal.returns-clause-rules
returns-clause-rules c = rules-next

pub returns-clause-running : goal.returns-clause-running
returns-clause-running c = noted-next

pub returns-clause-state : goal.returns-clause-state
returns-clause-state c = state-next
