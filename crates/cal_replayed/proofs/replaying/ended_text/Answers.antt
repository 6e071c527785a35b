use Rattle.std.proofs.Common.{◌∙◌}
use Rattle.std.proofs.lemmas.Result.{IfOk-weaker}
use Rattle.cal_records.specs.Records.{run_rows}
use Rattle.cal_write.specs.CanonicalText.{canonical_text}
use Rattle.cal_replayed.proofs.replaying.ended_text.Goals as goal

pub write_rows-requires-clause-none : goal.write_rows-requires-clause-none
write_rows-requires-clause-none g c = c.in_ok-writer.ensures c.args.ended.now.context

pub returns-clause-text : goal.returns-clause-text
returns-clause-text g c =
    let rows = run_rows c.args.script.now c.args.ended.now.journal in
    IfOk-weaker c.finish_beside.result _ _
    (λ text is. is rows c.in-Ok.ensures.taken
    ∙ (λ j. canonical_text (record {
      rows = rows;
      globals = c.in-Ok.ensures.globals.means j;
    })))
    c.finish_beside.ensures
