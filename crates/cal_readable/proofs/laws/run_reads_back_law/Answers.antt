use Rattle.cal_records.specs.Records.{records_of}
use Rattle.cal_readable.proofs.RecordLemmas.{records-readable}
use Rattle.cal_readable.proofs.laws.run_reads_back_law.Goals as goal

pub returns : goal.returns
returns c = λ script journal runnable readings held.
    c.records_read_back.ensures (records_of script journal) held
    (records-readable script journal runnable readings)
