use Rattle.cal_notes.proofs.Fronts.{rules-front, state-front}
use Rattle.cal_notes.proofs.laws.more_history_law.Goals as goal

pub returns-clause-rules : goal.returns-clause-rules
returns-clause-rules c = λ script real h more thread ls note keeps others.
    rules-front script real h thread ls note keeps more others

pub returns-clause-state : goal.returns-clause-state
returns-clause-state c = λ script real h more thread ls note keeps.
    state-front script real h thread ls note keeps more
