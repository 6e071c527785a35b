use Rattle.std.proofs.Common.{◌∙◌}
use Rattle.std.proofs.lemmas.Result.{IfOk-weaker}
use Rattle.cal_records.specs.Records.{run_rows}
use Rattle.cal_write.specs.CanonicalText.{canonical_text}
use Rattle.cal_call.proofs.running.run_text_in.Goals as goal

pub write_run-requires-clause-none : goal.write_run-requires-clause-none
write_run-requires-clause-none c = c.in_ok-writer.ensures c.of.new.context

pub returns : goal.returns
returns c =
    let rows = run_rows c.args.script.now c.args.journal.now in
    IfOk-weaker c.finish.result _ _
    (λ text is. is rows c.in-Ok.ensures.taken
    ∙ (λ j. canonical_text (record {
      rows = rows;
      globals = c.in-Ok.ensures.globals.means j;
    })))
    c.finish.ensures.text
