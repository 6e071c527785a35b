use Rattle.cal_run.proofs.FrontLemmas.{found_reply-front, is_read-front, looks-front}
use Rattle.cal_run.proofs.FrontLemmas.{noted_from-front, process_board-front, state_after-front}
use Rattle.cal_run.proofs.FrontLemmas.{taken_in-front}
use Rattle.cal_run.proofs.laws.known_history_law.Goals as goal

pub returns-clause-board : goal.returns-clause-board
returns-clause-board c = process_board-front

pub returns-clause-reply : goal.returns-clause-reply
returns-clause-reply c = λ script known more line note state inside.
    found_reply-front script known more line note inside state

pub returns-clause-looks : goal.returns-clause-looks
returns-clause-looks c = λ script known more line note state inside.
    looks-front script known more line note inside state

pub returns-clause-read : goal.returns-clause-read
returns-clause-read c = λ script known more line note state inside.
    is_read-front script known more line note inside state

pub returns-clause-taken : goal.returns-clause-taken
returns-clause-taken c = λ script known more line note state channel previous inside.
    taken_in-front script known more line note inside state channel previous

pub returns-clause-state : goal.returns-clause-state
returns-clause-state c = λ script known more line note state inside.
    state_after-front script known more line note inside state

pub returns-clause-noted : goal.returns-clause-noted
returns-clause-noted c = noted_from-front
