use Rattle.std.proofs.Common.{[], ap, ◌∙◌}
use Rattle.std.proofs.lemmas.Result.{IfOk-weaker}
use Rattle.cal_records.specs.Records.{globals_of, run_rows}
use Rattle.cal_write.specs.WriterGrows.{HasTaken-stays}
use Rattle.cal_call.proofs.running.write_run.Goals as goal

pub returns-clause-taken : goal.returns-clause-taken
returns-clause-taken c =
    let rows = run_rows c.args.script.now c.args.journal.now in
    IfOk-weaker c.put_globals.result _ _
    (λ globals means.
    HasTaken-stays c.take_run.new.taker c.take_run.new.context c.put_globals.new.context rows
    (c.in_ok-take_run.ensures.taken [] c.requires.none) c.put_globals.ensures.grows)
    c.put_globals.ensures.means

pub returns-clause-globals : goal.returns-clause-globals
returns-clause-globals c =
    IfOk-weaker c.put_globals.result _ _
    (λ globals means. record {
      within = means.within;
      means = means.means ∙ ap globals_of c.as_slice.ensures;
    })
    c.put_globals.ensures.means
