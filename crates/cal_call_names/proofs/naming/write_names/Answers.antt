use Rattle.cal_call_names.proofs.naming.write_names.Goals as goal

pub returns-in-Ok-clause-answers : goal.returns-in-Ok-clause-answers
returns-in-Ok-clause-answers g c = c.write_made-fault.ensures.answers _ c.in-Ok.ensures.read

-- the cause that making the list gave
pub returns-in-Err-clause-answers : goal.returns-in-Err-clause-answers
returns-in-Err-clause-answers g c =
    let empty = c.unwritten.ensures in
    rw (empty.replies, empty.fault) (c.in-Err.ensures.caused _)
