use Rattle.std.proofs.Common.{[], ap, ◌∙◌}
use Rattle.cal_records.specs.Records.{globals_of, run_rows}
use Rattle.cal_run.specs.Plain.{plain}
use Rattle.cal_write.specs.WriterGrows.{HasTaken-stays}
use Rattle.cal_call.proofs.running.write_plain.Goals as goal

pub returns-clause-taken : goal.returns-clause-taken
returns-clause-taken c =
    let rows = run_rows c.args.script.now (plain c.args.script.now) in
    HasTaken-stays c.take_plain_run.new.taker c.take_plain_run.new.context
    c.put_globals.new.context rows
    (c.in_ok-refused.ensures.taken [] c.requires.none) c.put_globals.ensures.grows

pub returns-clause-globals : goal.returns-clause-globals
returns-clause-globals c = record {
  within = c.in_ok-globals.ensures.means.within;
  means = c.in_ok-globals.ensures.means.means ∙ ap globals_of c.as_slice.ensures;
}
