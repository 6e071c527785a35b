use Rattle.std.proofs.Common.{Some, refl}
use Rattle.cal_process.specs.Operations.{history_of}
use Rattle.cal_run.specs.Steps.{changed}
use Rattle.cal_script.specs.declared.journal.LineNote.{LineNote}
use Rattle.cal_script.specs.declared.journal.Reply.TheVariants as reply
use Rattle.tests_thread.proofs.lines.change_if.Goals as goal

pub change-requires-clause-thread : goal.change-requires-clause-thread
change-requires-clause-thread c =
    let n = c.requires.next in (n.0, n.1.0, n.1.1, n.1.2, n.2)

-- whatever else is noted of the line
pub returns-in_ok-change-clause-behind : goal.returns-in_ok-change-clause-behind
returns-in_ok-change-clause-behind c done at b =
    let note : LineNote =
    record { reply = reply.Done; seen = 0; reading = Some c.args.reading } in (
      b.0,
      changed c.args.common.now.script.now (history_of b.0) c.args.line note b.1,
      c.in_ok-change.ensures.changed done b.0 b.1 note refl at b.2,
    )

pub returns-else-accepted-clause-behind : goal.returns-else-accepted-clause-behind
returns-else-accepted-clause-behind c done at b = (
  b.0,
  b.1,
  c.line_done_law.ensures c.args.common.now c.args.thread.now done b.0 b.1 b.2,
)
