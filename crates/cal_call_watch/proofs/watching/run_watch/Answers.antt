use Rattle.cal_call.proofs.RunFaults.{IsOneRule}
use Rattle.cal_call_watch.proofs.Decided.{watch_decides}
use Rattle.cal_call_watch.proofs.Shown.{answers_in_front}
use Rattle.cal_call_watch.proofs.watching.run_watch.Goals as goal

pub returns-clause-answers : goal.returns-clause-answers
returns-clause-answers g c =
    rw (c.end.ensures.fault, c.without_journal.ensures.fault) c.watch-fault.ensures.answers

pub returns-clause-in_front : goal.returns-clause-in_front
returns-clause-in_front g c =
    rw (c.end.ensures.fault, c.without_journal.ensures.fault)
    (answers_in_front c.conditions_in_front_law.ensures _ _ _ _ c.watch-fault.ensures.answers)

pub returns-clause-decided : goal.returns-clause-decided
returns-clause-decided g c =
    let broken = c.first_broken_law.ensures in
    let law : IsOneRule = record { lawful = broken.lawful; one = broken.one } in
    rw (c.end.ensures.fault, c.without_journal.ensures.fault)
    (watch_decides law _ _ _ _ c.watch-fault.ensures.answers)
