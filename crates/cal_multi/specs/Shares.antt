-- What the files come to, one by one and joined (private).
use Rattle.std.specs.Prelude.{◌≡◌, ℕ, List, [], ◌++◌, map, Option, None, Some, Result, Ok, Err, IfSome}
use Rattle.std.specs.List.{AllZip}
use Rattle.cal_engine.specs.Standing.{HasFolded}
use Rattle.cal_engine.specs.declared.snapshot_fold.SnapshotFold.{SnapshotFold}
use Rattle.cal_ql.specs.declared.query.Query.{Query}
use Rattle.cal_query.specs.Streaming.{FallsAt}
use Rattle.cal_query.specs.Wholes.{HasFoldedWhole}
use Rattle.cal_query.specs.declared.end.RowsEnd.{RowsEnd}
use Rattle.cal_query.specs.declared.seeing.Seen.{Seen}
use Rattle.cal_read.specs.Stream.{IsFault, IsStreamOf}
use Rattle.cal_value.specs.declared.record.Rec.{Rec}
use Rattle.cal_value.specs.declared.record.Records.{Records}
use Rattle.cal_multi.specs.Many.{rows_of_all}
use Rattle.cal_multi.specs.declared.end.ManyEnd as ends
use Rattle.cal_multi.specs.declared.end.ManyEnd.TheVariants as end
use Rattle.cal_multi.specs.declared.share.Share.{Share}

-- what the bytes of a file come to: the query's fold over its rows, or why there is none
abbrev pub ComesTo : Query → List ℕ → Result (Seen SnapshotFold) RowsEnd → Type 0
ComesTo query bytes (Ok seen) = HasFoldedWhole query bytes seen
ComesTo query bytes (Err end) = FallsAt end bytes

-- a share has what its bytes come to
abbrev pub IsFolded : Query → Share → Type 0
IsFolded query share = ComesTo query share.bytes.now share.came

-- the bytes of shares
abbrev pub bytes_of : List Share → List (List ℕ)
bytes_of shares = map (λ (share : Share). share.bytes.now) shares

-- why the bytes at a place have no fold
abbrev pub StopsAt : ends.ManyEnd → ℕ → List ℕ → Type 0
StopsAt (end.BadFile file line kind) place bytes = (file ≡ place) × IsFault bytes line kind
StopsAt end.OutOfMemory place bytes = Unit {0}

-- the rows that the folds of some files have taken; of no file none
abbrev pub HaveTaken : Option (Seen SnapshotFold) → List Rec → Type 0
HaveTaken None rows = rows ≡ []
HaveTaken (Some seen) rows = HasFolded seen.taker seen.context rows

-- a fold of the same query behind those before has taken their rows and then its own
pub record IsJoined (before : Option (Seen SnapshotFold)) (fold joined : Seen SnapshotFold) : Type 0
  where
    pub about : joined.taker.query ≡ fold.taker.query
    pub taken : (rows own : List Rec) → HaveTaken before rows
        → HasFolded fold.taker fold.context own
        → HasFolded joined.taker joined.context (rows ++ own)

-- the files are streams, and what is joined has taken the rows of all, in their order
pub record HaveJoined (query : Query) (files : List (List ℕ)) (joined : Option (Seen SnapshotFold))
    : Type 0 where
  pub all : List Records
  pub streams : AllZip IsStreamOf files all
  pub about : IfSome joined (λ (seen : Seen SnapshotFold). seen.taker.query ≡ query)
  pub taken : HaveTaken joined (rows_of_all all)
