-- What is found of the run of the threads one after another: once by counting, once by measuring its
-- text (private).
use Rattle.std.specs.Prelude.{◌≡◌, length}
use Rattle.cal_counts.specs.Counts.{snapshot_count, traced_count}
use Rattle.cal_records.specs.Records.{records_of, run_rows}
use Rattle.cal_run.specs.Paths.{nodes}
use Rattle.cal_run.specs.Plain.{plain}
use Rattle.cal_run.specs.declared.plain_counts.PlainCounts.{PlainCounts}
use Rattle.cal_script.specs.declared.script.Script.{Script}
use Rattle.cal_write.specs.CanonicalText.{canonical_text}
use Rattle.cal_write.specs.declared.measurer.Measure.{Measure}

-- the nodes and the snapshots were counted
pub record IsCounted (script : Script) (counts : PlainCounts) : Type 0 where
  pub nodes : counts.nodes ≡ nodes script (plain script)
  pub in_all : counts.in_all ≡ snapshot_count script (plain script)
  pub traced : counts.traced ≡ traced_count script (plain script)

-- the rows were counted, and the bytes of the text
pub record IsMeasured (script : Script) (measure : Measure) : Type 0 where
  pub rows : measure.rows ≡ length (run_rows script (plain script))
  pub bytes : measure.bytes ≡ length (canonical_text (records_of script (plain script)))
