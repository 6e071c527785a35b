-- How large a run is (private).
use Rattle.std.specs.Prelude.{◌≡◌}
use Rattle.cal_counts.specs.Counts.{group_count, snapshot_count}
use Rattle.cal_whole.specs.declared.whole.Counts.{Counts}
use Rattle.cal_run.specs.Paths.{nodes}
use Rattle.cal_script.specs.declared.journal.Journal.{Journal}
use Rattle.cal_script.specs.declared.script.Script.{Script}

-- these are the counts of the run by a journal
pub record HasCounts (script : Script) (journal : Journal) (counts : Counts) : Type 0 where
  pub nodes : counts.nodes ≡ nodes script journal
  pub snapshots : counts.snapshots ≡ snapshot_count script journal
  pub groups : counts.groups ≡ group_count script journal
