-- What the reader of declarations knows of the lines so far (private).
use Rattle.std.specs.Prelude.{◌≡◌, ◌<◌, Bool, false, List, [], length, Option, Some, None}
use Rattle.std.specs.Prelude.{if◌then◌else◌}
use Rattle.cal_value.specs.declared.attribute.Attribute.{Attribute}
use Rattle.std.specs.List.{All}
use Rattle.cal_script.specs.Reader.{AreNamed}
use Rattle.cal_script.specs.Shapes.{greatest}
use Rattle.cal_declarations.specs.Layout.{line_count, thread_words}
use Rattle.cal_declarations.specs.Counts.{IsFew}
use Rattle.cal_declarations.specs.Reading.{State, threads_of}
use Rattle.cal_declarations.specs.declared.reader.Reader.{Reader}

-- the declarations of the last thread, where one has begun
abbrev pub last_thread : Bool → List Attribute → Option (List Attribute)
last_thread in_thread lines = if in_thread then Some lines else None

-- what stands so far
abbrev pub state_of : Reader → State
state_of reader = record {
  earlier = reader.earlier;
  thread = last_thread reader.in_thread reader.lines;
}

-- The counts are those of the declarations so far, each of which has a name; none stands before a
-- thread.
pub record IsReading (reader : Reader) : Type 0 where
  pub lines : reader.counts.lines ≡ line_count (threads_of (state_of reader))
  pub own : reader.counts.own ≡ thread_words reader.lines
  pub most : reader.counts.most ≡ greatest thread_words reader.earlier
  pub before : reader.in_thread ≡ false → (reader.earlier ≡ []) × (reader.lines ≡ [])
  pub earlier_named : All AreNamed reader.earlier
  pub named : AreNamed reader.lines

-- the last thread is one of the earlier ones
abbrev pub ended : Reader → Reader
ended reader = record reader { earlier = threads_of (state_of reader); lines = [] }

-- So little was read that one line more can be counted.
pub record IsSmall (reader : Reader) : Type 0 where
  pub threads : length reader.earlier < 65
  pub few : IsFew reader.counts
