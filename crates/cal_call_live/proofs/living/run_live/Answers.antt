use Rattle.cal_call.proofs.Deciding.{answers_decide}
use Rattle.cal_call.proofs.RunFaults.{IsOneRule}
use Rattle.cal_call_live.proofs.living.run_live.Goals as goal

pub returns-clause-decided : goal.returns-clause-decided
returns-clause-decided g c =
    let broken = c.first_broken_law.ensures in
    let law : IsOneRule = record { lawful = broken.lawful; one = broken.one } in
    rw c.end.ensures.fault
    (answers_decide law _ _ _ _ _ c.live-ended.ensures.answers)
