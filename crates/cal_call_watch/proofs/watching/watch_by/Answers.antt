use Rattle.std.proofs.Common.{false, refl}
use Rattle.cal_ql.specs.Clauses.{reading}
use Rattle.cal_call.specs.Words.{text_at}
use Rattle.cal_call_watch.proofs.Shown.{not_refused, read_alike, text_refused}
use Rattle.cal_call_watch.proofs.watching.watch_by.Goals as goal

pub returns-in-Ok-clause-answers : goal.returns-in-Ok-clause-answers
returns-in-Ok-clause-answers g c =
    rw (read_alike c.args.command.trigger false (reading (text_at c.args.words.now c.args.command.q))
    c.in-Ok.query (c.in-Ok.ensures.asked false)) c.answer.ensures.answers

pub returns-in-Ok-clause-input : goal.returns-in-Ok-clause-input
returns-in-Ok-clause-input g c = λ err.
    absurd (not_refused _ _
    (read_alike c.args.command.trigger false (reading (text_at c.args.words.now c.args.command.q))
    c.in-Ok.query (c.in-Ok.ensures.asked false)) err)

-- the cause that reading the text gave
pub returns-in-Err-clause-answers : goal.returns-in-Err-clause-answers
returns-in-Err-clause-answers g c =
    text_refused _ _ refl c.args.command.trigger
    (reading (text_at c.args.words.now c.args.command.q)) _ c.in-Err.ensures.refused
