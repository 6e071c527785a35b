use Rattle.cal_finish.proofs.LawfulRuns.{have-ended}
use Rattle.cal_finish.proofs.laws.lawful_run_law.Goals as goal
use Rattle.cal_notes.proofs.Ends.{together}
use Rattle.cal_replay.specs.Workers.{script_of}
use Rattle.cal_finish.specs.Ended.{journal_of}

pub returns : goal.returns
returns g c shared runners history is_shared ended =
    together (script_of shared) (journal_of shared runners history)
    (have-ended _ _ shared runners history is_shared ended)
