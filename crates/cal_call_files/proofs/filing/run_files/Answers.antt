use Rattle.cal_call_files.proofs.Deciding.{answers_decide}
use Rattle.cal_call_files.proofs.filing.run_files.Goals as goal

-- what is answered decides
pub returns-clause-decided : goal.returns-clause-decided
returns-clause-decided g c =
    rw (c.end.ensures.fault, c.err-fault.ensures.value)
    (answers_decide _ _ _ _ c.file.ensures.answers)
