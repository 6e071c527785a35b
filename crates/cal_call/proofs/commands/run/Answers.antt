use Rattle.cal_call.proofs.Deciding.{answers_decide}
use Rattle.cal_call.proofs.RunFaults.{IsOneRule}
use Rattle.cal_call.proofs.commands.run.Goals as goal

pub returns-clause-decided : goal.returns-clause-decided
returns-clause-decided g c =
    let broken = c.first_broken_law.ensures in
    let law : IsOneRule = record { lawful = broken.lawful; one = broken.one } in
    rw c.end.ensures.fault
    (answers_decide law _ _ _ _ _ c.carry_out-ended.ensures.answers)

pub returns-clause-status : goal.returns-clause-status
returns-clause-status g c = rw c.end.ensures.fault c.end.ensures.status

pub returns-clause-told : goal.returns-clause-told
returns-clause-told g c = rw c.end.ensures.fault c.end.ensures.told

pub returns-clause-answers : goal.returns-clause-answers
returns-clause-answers g c =
    rw (c.end.ensures.fault, c.end.ensures.journal) c.carry_out-ended.ensures.answers

pub returns-clause-asked : goal.returns-clause-asked
returns-clause-asked g c =
    rw (c.end.ensures.fault, c.end.ensures.journal) c.carry_out-ended.ensures.asked

pub returns-clause-input : goal.returns-clause-input
returns-clause-input g c = c.carry_out-ended.ensures.input

pub returns-clause-output : goal.returns-clause-output
returns-clause-output g c = rw c.end.ensures.fault c.carry_out-ended.ensures.output

pub returns-clause-journal : goal.returns-clause-journal
returns-clause-journal g c =
    rw (c.end.ensures.fault, c.end.ensures.journal) c.carry_out-ended.ensures.journal

pub returns-clause-errors : goal.returns-clause-errors
returns-clause-errors g c = rw c.end.ensures.fault c.end.ensures.errors
