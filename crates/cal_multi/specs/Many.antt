-- The answer of a query over many streams. (Giltmoth's rule.)
use Rattle.std.specs.Prelude.{◌≡◌, ℕ, List, Some, slice_get, take}
use Rattle.std.specs.List.{All, AllZip, flat_map}
use Rattle.cal_engine.specs.Answers.{answer_of}
use Rattle.cal_ql.specs.declared.query.Query.{Query}
use Rattle.cal_read.specs.Stream.{IsFault, IsStreamOf}
use Rattle.cal_read.specs.declared.kind.StreamKind.{StreamKind}
use Rattle.cal_rowset.specs.declared.rowset.Rowset.{Rowset}
use Rattle.cal_value.specs.declared.record.Rec.{Rec}
use Rattle.cal_value.specs.declared.record.Records.{Records}
use Rattle.cal_multi.specs.declared.end.ManyEnd as ends
use Rattle.cal_multi.specs.declared.end.ManyEnd.TheVariants as end

-- the rows of all files, in the order of the files; their globals are dropped
abbrev pub rows_of_all : List Records → List Rec
rows_of_all all = flat_map (λ (records : Records). records.rows) all

-- Each file is a stream, and this is the answer over the rows of all of them.
pub record IsAnswerOfMany (query : Query) (files : List (List ℕ)) (answer : Rowset) : Type 0 where
  pub all : List Records
  pub streams : AllZip IsStreamOf files all
  pub is : answer ≡ answer_of query (rows_of_all all)

-- the bytes are a stream
abbrev pub IsSound : List ℕ → Type 0
IsSound bytes = (records : Records) × IsStreamOf bytes records

-- The file at a place is the first that goes wrong, and its first fault is at this line.
pub record IsFirstBad (files : List (List ℕ)) (place line : ℕ) (kind : StreamKind) : Type 0 where
  pub before : All IsSound (take place files)
  pub bytes : List ℕ
  pub at : slice_get files place ≡ Some bytes
  pub fault : IsFault bytes line kind

-- why files have no answer
abbrev pub StopsMany : ends.ManyEnd → List (List ℕ) → Type 0
StopsMany (end.BadFile file line kind) files = IsFirstBad files file line kind
StopsMany end.OutOfMemory files = Unit {0}
