use Rattle.std.proofs.Common.{◌≡◌, [], ap, ◌∙◌}
use Rattle.std.proofs.lemmas.Result.{IfOk-weaker}
use Rattle.cal_records.specs.Records.{globals_of, run_rows}
use Rattle.cal_run.specs.Plain.{plain}
use Rattle.cal_summary.proofs.NumberLemmas.{measure_of}
use Rattle.cal_summary.specs.Counted.{IsMeasured}
use Rattle.cal_write.specs.Measuring.{HasMeasured-stays}
use Rattle.cal_write.specs.declared.measurer.Measure.{Measure}
use Rattle.cal_summary.proofs.measuring.measure_in.Goals as goal

pub returns : goal.returns
returns c =
    let script = c.args.script.now in
    let rows = run_rows script (plain script) in
    let run = c.take_plain_run.new.context in
    let whole = c.put_globals.new.context in
    let measurer = c.take_plain_run.new.taker in
    let taken = c.in_ok-take_plain_run.ensures.taken [] (c.in_ok-measurer.ensures c.args.context.now) in
    let stays = HasMeasured-stays measurer run whole rows taken c.put_globals.ensures.grows in
    let globals = c.in_ok-globals.ensures.means.means ∙ ap globals_of c.as_slice.ensures in
    IfOk-weaker c.finish.result _ (IsMeasured script)
    (λ measure is.
    let same = is rows stays ∙ ap (measure_of rows) globals in
    record {
      rows = ap (λ (m : Measure). m.rows) same;
      bytes = ap (λ (m : Measure). m.bytes) same;
    })
    c.finish.ensures
