-- What a reader has read.
use Rattle.std.specs.Prelude.{◌≡◌, ℕ, List, [], ◌++◌, Option, Some, None, Result, Ok, Err, length}
use Rattle.cal_context.specs.Tree.{Tree}
use Rattle.cal_line.specs.FirstFault.{after_lines, IsFirstFault}
use Rattle.cal_value.specs.declared.record.Rec.{Rec}
use Rattle.cal_line.specs.Lines.{lines_of}
use Rattle.cal_read.specs.Cuts.{IsCut, ended_lines}
use Rattle.cal_read.specs.Standing.{Stands, TakesUpTo}
use Rattle.cal_read.specs.Stream.{Stream, IsStream, no_lines, line_step}
use Rattle.cal_read.specs.declared.end.StreamEnd as ends
use Rattle.cal_read.specs.declared.end.StreamEnd.TheVariants as end
use Rattle.cal_read.specs.declared.kind.StreamKind.{StreamKind}
use Rattle.cal_read.specs.declared.stream_reader.StreamReader.{StreamReader}

-- the rows that lines make, where they have no fault
abbrev pub rows_made : Result Stream StreamKind → List Rec
rows_made (Ok s) = s.rows
rows_made (Err kind) = []

abbrev pub rows_of_lines : List (List ℕ) → List Rec
rows_of_lines lines = rows_made (after_lines line_step no_lines lines)

-- the rows of the lines that have ended
abbrev pub rows_before : List ℕ → List Rec
rows_before bytes = rows_of_lines (ended_lines bytes)

-- What a refusal says of lines: a bad line is their first fault, and running out of memory says
-- nothing.
abbrev pub IsRefusalOf : List (List ℕ) → ends.StreamEnd → Type 0
IsRefusalOf lines (end.BadLine line kind) = IsFirstFault line_step no_lines lines line kind
IsRefusalOf lines end.OutOfMemory = Unit {0}

-- The reader has read these bytes into a context as it stands, and the lines that have ended have
-- no fault.
pub record HasRead (reader : StreamReader) (t : Tree) (bytes : List ℕ) : Type 0 where
  pub sound : reader.refused ≡ None
  pub lines : List (List ℕ)
  pub cut : IsCut bytes lines reader.begun.items
  pub counted : reader.lines ≡ length lines
  pub stream : Stream
  pub made : after_lines line_step no_lines lines ≡ Ok stream
  pub stands : Stands t reader.stream stream

-- the reader has read all of these bytes, which are a stream
pub record HasEnded (reader : StreamReader) (t : Tree) (bytes : List ℕ) : Type 0 where
  pub stream : Stream
  pub is : IsStream bytes stream
  pub stands : Stands t reader.stream stream

-- the reader answers this refusal from now on
abbrev pub IsRefused : StreamReader → ends.StreamEnd → Type 0
IsRefused reader refusal = reader.refused ≡ Some refusal

-- the reader refuses, or has read some bytes
abbrev pub IsReadyIf : Option ends.StreamEnd → StreamReader → Tree → Type 0
IsReadyIf None reader t = (bytes : List ℕ) × HasRead reader t bytes
IsReadyIf (Some refusal) reader t = Unit {0}

abbrev pub IsReady : StreamReader → Tree → Type 0
IsReady reader t = IsReadyIf reader.refused reader t

-- the rows of the lines that have ended since were taken
abbrev pub TakesBytes : (List Rec → Type 0) → (List Rec → Type 0) → List ℕ → List ℕ → Type 0
TakesBytes had has before after = TakesUpTo had has (rows_before before) (rows_before after)

-- the rest of the rows was taken
abbrev pub TakesEnd : (List Rec → Type 0) → (List Rec → Type 0) → List ℕ → Type 0
TakesEnd had has bytes = TakesUpTo had has (rows_before bytes) (rows_of_lines (lines_of bytes))

-- the bytes are a stream with these globals
pub record Ends (bytes : List ℕ) (globals : Rec) : Type 0 where
  pub stream : Stream
  pub is : IsStream bytes stream
  pub globals_are : globals ≡ stream.globals

-- a reader has gone on through all but the rest of some bytes, and has had their rows taken
pub record ReadsOn (had has : List Rec → Type 0) (old new : StreamReader) (t : Tree)
    (all rest : List ℕ) : Type 0 where
  pub front : List ℕ
  pub parts : all ≡ front ++ rest
  pub read : (bytes : List ℕ) → HasRead old t bytes → HasRead new t (bytes ++ front)
  pub taken : (bytes : List ℕ) → HasRead old t bytes → TakesBytes had has bytes (bytes ++ front)
