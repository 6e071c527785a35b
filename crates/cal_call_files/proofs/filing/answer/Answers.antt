use Rattle.std.proofs.lemmas.Result.{err_from_is_err_and}
use Rattle.cal_call_files.proofs.filing.answer.Goals as goal

-- the cause that reading gave
pub returns-in_err-text-clause-answers : goal.returns-in_err-text-clause-answers
returns-in_err-text-clause-answers g c =
    let gone = c.from_residual in
    let p = err_from_is_err_and gone.result gone.ensures.1 in
    rw (p.1, p.2) (c.in_err-text.ensures.caused _)
