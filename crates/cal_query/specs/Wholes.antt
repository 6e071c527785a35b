-- What a query's fold has taken of a whole stream.
use Rattle.std.specs.Prelude.{◌≡◌, ℕ, List}
use Rattle.cal_engine.specs.Standing.{HasFolded}
use Rattle.cal_engine.specs.declared.snapshot_fold.SnapshotFold.{SnapshotFold}
use Rattle.cal_ql.specs.declared.query.Query.{Query}
use Rattle.cal_read.specs.Stream.{IsStreamOf}
use Rattle.cal_value.specs.declared.record.Records.{Records}
use Rattle.cal_query.specs.declared.seeing.Seen.{Seen}

-- the bytes are a stream, and the fold is the query's over its rows, in the context beside it
pub record HasFoldedWhole (query : Query) (bytes : List ℕ) (seen : Seen SnapshotFold) : Type 0
  where
    pub records : Records
    pub stream : IsStreamOf bytes records
    pub about : seen.taker.query ≡ query
    pub folded : HasFolded seen.taker seen.context records.rows
