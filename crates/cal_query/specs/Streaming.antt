-- A reader at work on an input (private).
use Rattle.std.specs.Prelude.{◌≡◌, ℕ, List, ◌++◌, Option, None, Some, IfNone}
use Rattle.cal_context.specs.Snapshots.{IsIn, meaning}
use Rattle.cal_context.specs.Tree.{Tree}
use Rattle.cal_context.specs.declared.snapshot.Snapshot.{Snapshot}
use Rattle.cal_read.specs.Reading.{HasRead, IsReady, rows_before}
use Rattle.cal_read.specs.Stream.{IsFault, IsStream, Stream}
use Rattle.cal_value.specs.declared.record.Rec.{Rec}
use Rattle.cal_query.specs.declared.end.RowsEnd as ends
use Rattle.cal_query.specs.declared.end.RowsEnd.TheVariants as end
use Rattle.cal_query.specs.declared.streaming.BadLine.{BadLine}
use Rattle.cal_query.specs.declared.streaming.Finished.{Finished}
use Rattle.cal_query.specs.declared.streaming.Streaming.{Streaming}

-- whatever follows, the bytes go wrong first there
abbrev pub Fell : BadLine → List ℕ → Type 0
Fell fault bytes = (more : List ℕ) → IsFault (bytes ++ more) fault.line fault.kind

module _ {T : Type 0} (has_taken : T → Tree → List Rec → Type 0) where
  -- the reader and the taker stand after these bytes, or a fault was met in them
  abbrev pub StandsAt : Option BadLine → Streaming T → List ℕ → Type 0
  StandsAt None s bytes =
      HasRead s.reader s.context bytes × has_taken s.taker s.context (rows_before bytes)
  StandsAt (Some fault) s bytes = Fell fault bytes

  abbrev pub HasStreamed : Streaming T → List ℕ → Type 0
  HasStreamed s bytes = StandsAt s.fault s bytes

  -- the bytes are a stream, whose rows were taken and whose globals are there
  pub record HasFinished (f : Finished T) (bytes : List ℕ) : Type 0 where
    pub stream : Stream
    pub is : IsStream bytes stream
    pub rows : has_taken f.taker f.context stream.rows
    pub within : IsIn f.context f.globals
    pub globals : meaning f.context f.globals ≡ stream.globals

-- where no fault was met, the taker is about this
abbrev pub IsAbout : {T About : Type 0} → (T → About) → Streaming T → About → Type 0
IsAbout about s what = IfNone s.fault (about s.taker ≡ what)

-- a reader that has read to the end, with the globals there
abbrev pub finished : {T : Type 0} → Streaming T → Snapshot → Finished T
finished s globals = record { context = s.context; taker = s.taker; globals = globals }

abbrev pub MayBeFed : {T : Type 0} → Option BadLine → Streaming T → Type 0
MayBeFed None s = IsReady s.reader s.context
MayBeFed (Some fault) s = Unit {0}

-- why the bytes have no rows
abbrev pub FallsAt : ends.RowsEnd → List ℕ → Type 0
FallsAt (end.BadLine line kind) bytes = IsFault bytes line kind
FallsAt end.ReadFault bytes = ⊥
FallsAt end.TooLong bytes = ⊥
FallsAt end.OutOfMemory bytes = Unit {0}
