use Rattle.cal_call.specs.Tasks.{SerialTask}
use Rattle.cal_call.proofs.serial.serial.Goals as goal

pub returns-in-Ok-clause-answers : goal.returns-in-Ok-clause-answers
returns-in-Ok-clause-answers g c =
    c.write_made-fault.ensures.answers SerialTask _ c.in-Ok.ensures.read

-- the cause that the run gave
pub returns-in-Err-clause-answers : goal.returns-in-Err-clause-answers
returns-in-Err-clause-answers g c =
    let empty = c.without_journal.ensures in
    rw (empty.journal, empty.fault) (c.in-Err.ensures.caused _)
