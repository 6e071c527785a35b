use Rattle.std.proofs.Common.{◌∙◌}
use Rattle.cal_records.specs.Records.{run_rows}
use Rattle.cal_run.specs.Plain.{plain}
use Rattle.cal_write.specs.CanonicalText.{canonical_text}
use Rattle.cal_call.proofs.running.plain_text_in.Goals as goal

pub write_plain-requires-clause-none : goal.write_plain-requires-clause-none
write_plain-requires-clause-none c = c.in_ok-writer.ensures c.of.new.context

pub returns-clause-text : goal.returns-clause-text
returns-clause-text c =
    let script = c.args.script.now in
    let rows = run_rows script (plain script) in
    c.in_ok-text.ensures.text rows c.in-Ok.ensures.taken
    ∙ (λ j. canonical_text (record {
      rows = rows;
      globals = c.in-Ok.ensures.globals.means j;
    }))
