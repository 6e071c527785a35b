use Rattle.cal_call.proofs.LeftClocks.{told_clocks}
use Rattle.cal_call.specs.Tasks.{ThreadsTask}
use Rattle.cal_call.specs.declared.words.RunText.TheVariants as run_text
use Rattle.cal_call_live.proofs.Unbusy.{no_journal-quiet}
use Rattle.cal_call_live.proofs.living.live_by.Goals as goal

pub returns-in-Ok-clause-answers : goal.returns-in-Ok-clause-answers
returns-in-Ok-clause-answers g c =
    c.write_made-fault.ensures.answers (ThreadsTask run_text.Records c.args.command.real) _
    c.in-Ok.ensures.read

pub returns-in-Ok-clause-asked : goal.returns-in-Ok-clause-asked
returns-in-Ok-clause-asked g c =
    told_clocks g.K.Clock.given c.in-Ok.made.journal _ _ _ c.write_made-fault.ensures.writes
    c.in-Ok.ensures.told

-- the cause that the run gave
pub returns-in-Err-clause-answers : goal.returns-in-Err-clause-answers
returns-in-Err-clause-answers g c =
    let empty = c.without_journal.ensures in
    rw (empty.journal, empty.fault) (c.in-Err.ensures.caused _)

pub returns-in-Err-clause-asked : goal.returns-in-Err-clause-asked
returns-in-Err-clause-asked g c =
    let empty = c.without_journal.ensures in
    rw (empty.journal, empty.fault) c.in-Err.ensures.asked

pub returns-in-Err-clause-quiet : goal.returns-in-Err-clause-quiet
returns-in-Err-clause-quiet g c = rw c.without_journal.ensures.journal no_journal-quiet
