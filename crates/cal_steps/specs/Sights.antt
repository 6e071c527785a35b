-- What a snapshot is taken of, by boards of plain values.
use Rattle.std.specs.Prelude.{◌≡◌, ℕ, Bool, List, [], ◌∷◌, ◌++◌, ◌&&◌, not, if◌then◌else◌, map, zip}
use Rattle.std.specs.Prelude.{Option, Some, None}
use Rattle.cal_board.specs.Blackboard.{Blackboard}
use Rattle.cal_board.specs.declared.opened.Slot.{Slot}
use Rattle.cal_events.specs.Effects.{line_ended, note_made}
use Rattle.cal_events.specs.Worlds.{Held, ThreadWorld}
use Rattle.cal_run.specs.Held.{Accepts, HasPlaces, IsKnown}
use Rattle.cal_run.specs.History.{board_placed}
use Rattle.cal_run.specs.Lines.{clock_after, operation_of, takes}
use Rattle.cal_run.specs.Snapshots.{Sight as seen, board_of, snapshot_of}
use Rattle.cal_run.specs.Steps.{reading_of, readings_changed}
use Rattle.cal_run.specs.declared.operation.Operation.{Operation}
use Rattle.cal_script.specs.declared.journal.LineNote.{LineNote}
use Rattle.cal_script.specs.declared.journal.Placed.{Placed}
use Rattle.cal_script.specs.declared.journal.ThreadNote.{ThreadNote}
use Rattle.cal_script.specs.declared.script.Channel.{Channel}
use Rattle.cal_script.specs.declared.script.Line.{Line}
use Rattle.cal_script.specs.declared.script.Script.{Script}
use Rattle.cal_steps.specs.declared.sight.Sight.{Sight}
use Rattle.cal_steps.specs.declared.thread.ThreadState.{ThreadState}
use Rattle.cal_value.specs.declared.record.Rec.{Rec}
use Rattle.cal_value.specs.declared.variant.Variant.{Variant}
use Rattle.cal_world.specs.declared.turn.Turn.{Turn}

-- what it sees
abbrev pub sight_of : Sight → seen
sight_of s = record {
  mine = s.mine.now;
  process = s.process.now;
  readings = s.readings.now;
  reading = s.reading;
  previous = s.previous;
}

-- an operation of the script that its board accepts
abbrev pub MayTake : Script → seen → Option Operation → Type 0
MayTake script s None = Unit {0}
MayTake script s (Some op) = HasPlaces script op × Accepts script (board_of script s op) op

-- The attributes of the boards' values are the script's, and so is the operation's, which is
-- accepted.
pub record CanTake (script : Script) (s : seen) (op : Option Operation) : Type 0 where
  pub mine : IsKnown script s.mine
  pub process : IsKnown script s.process
  pub may : MayTake script s op

-- ---- what channels take of it, on a line that is accepted

module _ (script : Script) (l : Line) (s : seen) where
  abbrev pub shown_to : Held → seen
  shown_to h = record s { previous = h.previous }

  abbrev pub taken_of : Channel × Held → List Rec
  taken_of c = if takes script c.0 l
      then snapshot_of script (shown_to c.1) c.0 (operation_of l) ∷ [] else []

  abbrev pub held_with : Channel × Held → Held
  held_with c = record {
    previous = if c.0.timer && takes script c.0 l then s.reading else c.1.previous;
    trace = c.1.trace ++ taken_of c;
    unflushed = c.1.unflushed ++ taken_of c;
  }

-- ---- a thread in memory

-- what it has, with the notes of its lines
abbrev pub thread_world : ThreadState → ThreadNote → ThreadWorld
thread_world s n = record {
  seen = s.seen;
  state = record { board = s.board; readings = s.readings; clock = s.clock };
  note = n;
  channels = s.channels.items;
}

-- what it notes of a line, and how the line leaves it
pub record EndsLine (script : Script) (history : List Placed) (x : Turn) (old new : ThreadState)
    (note : LineNote) : Type 0 where
  pub made : (n : ThreadNote) → note ≡ note_made script history x (thread_world old n)
  pub left : (n : ThreadNote) → thread_world new (record n { lines = n.lines ++ note ∷ [] })
      ≡ line_ended script history x (thread_world old n)

-- what an accepted line shows to channels, of whatever reading before
abbrev pub shown_at : (mine process : Blackboard Variant) → List (Slot ℕ) → (reading : ℕ) → seen
shown_at mine process readings reading = record {
  mine = mine;
  process = process;
  readings = readings;
  reading = reading;
  previous = 0;
}

abbrev pub shown_by : ThreadState → (process : Blackboard Variant) → LineNote → seen
shown_by s process note = shown_at s.board process s.readings (reading_of note)

-- How a line leaves what a thread has: an accepted line is taken by the channels, and makes its
-- change, unless that is the process's.
pub record IsLeft (script : Script) (l : Line) (note : LineNote) (shared accepted : Bool)
    (process : Blackboard Variant) (old new : ThreadState) : Type 0 where
  pub seen : new.seen ≡ old.seen
  pub channels : new.channels.items ≡ (if accepted
      then map (held_with script l (shown_by old process note))
      (zip script.channels old.channels.items)
      else old.channels.items)
  pub board : new.board ≡ (if accepted && not shared
      then board_placed script old.board (operation_of l) else old.board)
  pub readings : new.readings ≡ (if accepted && not shared
      then readings_changed script old.readings note (operation_of l) else old.readings)
  pub clock : new.clock ≡ (if accepted && not shared
      then clock_after old.clock l else old.clock)
