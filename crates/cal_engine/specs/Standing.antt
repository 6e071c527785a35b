-- What a fold over snapshots has taken.
use Rattle.std.specs.Prelude.{List}
use Rattle.std.specs.List.{filter_map}
use Rattle.cal_context.specs.Tree.{Tree}
use Rattle.cal_filter.specs.Kept.{kept}
use Rattle.cal_ql.specs.Valid.{IsValidQuery}
use Rattle.cal_value.specs.declared.record.Rec.{Rec}
use Rattle.cal_engine.specs.Gates.{IsGate}
use Rattle.cal_engine.specs.Tallies.{Holds}
use Rattle.cal_engine.specs.declared.snapshot_fold.SnapshotFold.{SnapshotFold}

-- The fold stands for these records of a context: it holds what LET and WHERE keep of them, and
-- what it keeps beside numbers is right.
pub record HasFolded (fold : SnapshotFold) (t : Tree) (rs : List Rec) : Type 0 where
  pub valid : IsValidQuery fold.query
  pub gate : IsGate t fold.query fold.gate
  pub holds : Holds t fold.query (filter_map (kept fold.query) rs) fold.tally fold.rows
