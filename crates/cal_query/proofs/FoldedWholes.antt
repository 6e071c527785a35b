-- A fold over the rows of a whole stream.
use Rattle.std.proofs.Common.{◌≡◌, ℕ, List}
use Rattle.cal_engine.specs.Standing.{HasFolded}
use Rattle.cal_engine.specs.declared.snapshot_fold.SnapshotFold.{SnapshotFold}
use Rattle.cal_ql.specs.declared.query.Query.{Query}
use Rattle.cal_query.specs.Streaming.{HasFinished}
use Rattle.cal_query.specs.Wholes.{HasFoldedWhole}
use Rattle.cal_query.specs.declared.streaming.Finished.{Finished}

-- a query's fold that has taken the rows of all bytes
pub folded_whole : (query : Query) (bytes : List ℕ) (f : Finished SnapshotFold)
    → HasFinished HasFolded f bytes → f.taker.query ≡ query
    → HasFoldedWhole query bytes (record { context = f.context; taker = f.taker })
folded_whole query bytes f finished about = record {
  records = record { rows = finished.stream.rows; globals = finished.stream.globals };
  stream = record { nodes = finished.stream.nodes; stream = finished.is };
  about = about;
  folded = finished.rows;
}
