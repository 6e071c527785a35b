use Rattle.std.proofs.Common.{List, subst, sym}
use Rattle.std.specs.Prelude.{Bool}
use Rattle.cal_finish.proofs.LawfulRuns.{have-ended}
use Rattle.cal_finish.proofs.RunThreads.{has-ended}
use Rattle.cal_finish.specs.Ended.{journal_of, notes_of}
use Rattle.cal_notes.proofs.Ends.{together}
use Rattle.cal_replay.specs.Workers.{script_of}
use Rattle.cal_run.specs.Lawful.{Lawful}
use Rattle.cal_script.specs.declared.journal.ThreadNote.{ThreadNote}
use Rattle.cal_finish.proofs.laws.ended_runners_law.Goals as goal

pub returns-clause-ended : goal.returns-clause-ended
returns-clause-ended g c shared runners history run known whole = record {
  run = run;
  known = known;
  ended = has-ended _ _ shared runners run history whole;
}

-- the journal is the one of the law of a run
pub returns-clause-lawful : goal.returns-clause-lawful
returns-clause-lawful g c shared runners journal is_shared ended real noted =
    let law : Lawful (script_of shared) (journal_of shared runners journal.ops) =
    together (script_of shared) (journal_of shared runners journal.ops)
    (have-ended _ _ shared runners journal.ops is_shared ended) in
    let clock : Lawful (script_of shared)
    (record { real = journal.real; ops = journal.ops; threads = notes_of runners }) =
    subst (λ (b : Bool). Lawful (script_of shared)
    (record { real = b; ops = journal.ops; threads = notes_of runners })) (sym real) law in
    subst (λ (ns : List ThreadNote). Lawful (script_of shared)
    (record { real = journal.real; ops = journal.ops; threads = ns })) (sym noted) clock
