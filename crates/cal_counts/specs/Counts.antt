-- How many snapshots and records of groups a run has. (Giltmoth's rule.)
use Rattle.std.specs.Prelude.{ℕ, length, sum_by}
use Rattle.cal_records.specs.Records.{grouped, traced}
use Rattle.cal_run.specs.Runs.{snapshots}
use Rattle.cal_script.specs.declared.journal.Journal.{Journal}
use Rattle.cal_script.specs.declared.script.Script.{Script}

module _ (script : Script) (journal : Journal) where
  -- the snapshots of all channels
  abbrev pub snapshot_count : ℕ
  snapshot_count = sum_by (λ channel. length (snapshots script journal channel)) script.channels

  -- those of them that stand in traces
  abbrev pub traced_count : ℕ
  traced_count = sum_by (λ channel. length (traced script journal channel)) script.channels

  -- the records of groups
  abbrev pub group_count : ℕ
  group_count = sum_by (λ channel. length (grouped script journal channel)) script.channels
