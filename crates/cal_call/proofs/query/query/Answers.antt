use Rattle.std.proofs.Common.{refl}
use Rattle.cal_call.proofs.Tasks.{text_refused}
use Rattle.cal_call.proofs.query.query.Goals as goal

pub returns-in-Ok-clause-answers : goal.returns-in-Ok-clause-answers
returns-in-Ok-clause-answers g c =
    rw (c.in-Ok.ensures.asked c.args.join) c.answer.ensures.answers

-- the cause that reading the text gave
pub returns-in-Err-clause-answers : goal.returns-in-Err-clause-answers
returns-in-Err-clause-answers g c =
    text_refused _ _ _ refl c.args.words.now c.args.q c.args.join _ c.in-Err.ensures.refused
