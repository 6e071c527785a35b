-- What a snapshot of globals means.
use Rattle.std.specs.Prelude.{◌≡◌}
use Rattle.cal_context.specs.Snapshots.{IsIn, meaning}
use Rattle.cal_context.specs.Tree.{Tree}
use Rattle.cal_context.specs.declared.snapshot.Snapshot.{Snapshot}
use Rattle.cal_value.specs.declared.record.Rec.{Rec}

-- a snapshot of the context means a record
pub record Means (t : Tree) (s : Snapshot) (r : Rec) : Type 0 where
  pub within : IsIn t s
  pub means : meaning t s ≡ r
