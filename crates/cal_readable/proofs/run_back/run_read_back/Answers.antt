use Rattle.std.proofs.Common.{◌≡◌, subst, sym}
use Rattle.std.specs.Prelude.{IfOk}
use Rattle.cal_records.specs.Records.{records_of}
use Rattle.cal_stream.specs.Readable.{AreReadable}
use Rattle.cal_value.specs.declared.record.Records.{Records}
use Rattle.cal_readable.proofs.run_back.run_read_back.Goals as goal

pub returns-clause-same : goal.returns-clause-same
returns-clause-same c =
    let readable : AreReadable (records_of c.args.script.now c.args.journal.now) =
    c.readable_records_law.ensures c.args.script.now c.args.journal.now c.requires.runnable
    c.see_readings.ensures in
    subst (λ (rs : Records). IfOk c.read_back.result (λ read. read ≡ rs)) c.in_ok-records.ensures
    (c.read_back.ensures.same (subst AreReadable (sym c.in_ok-records.ensures) readable))

pub returns-clause-refused : goal.returns-clause-refused
returns-clause-refused c =
    let readable : AreReadable (records_of c.args.script.now c.args.journal.now) =
    c.readable_records_law.ensures c.args.script.now c.args.journal.now c.requires.runnable
    c.see_readings.ensures in
    c.read_back.ensures.refused (subst AreReadable (sym c.in_ok-records.ensures) readable)
