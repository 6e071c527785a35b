-- How a thread runs a line, in six steps. (Giltmoth's rule, after Caliper's event and timer
-- services.) What the thread met stands in the journal's note of the line: the operations that it
-- had seen, and the reading.
use Rattle.std.specs.Prelude.{ℕ, ◌-◌, Bool, true, false, List, [], ◌∷◌, if◌then◌else◌, not, ◌&&◌}
use Rattle.std.specs.Prelude.{Option, Some, None, unwrap_or}
use Rattle.std.specs.List.{list_any}
use Rattle.cal_board.specs.Blackboard.{Blackboard, nothing_open, reply_to}
use Rattle.cal_board.specs.declared.opened.Slot.{Slot}
use Rattle.cal_board.specs.declared.reply.BoardReply as boards
use Rattle.cal_board.specs.declared.reply.BoardReply.TheVariants as board
use Rattle.cal_run.specs.History.{board_placed, process_board}
use Rattle.cal_run.specs.Lines.{attr_ref, clock_after, is_process_line, operation_of, takes}
use Rattle.cal_board.specs.Readings.{readings_after}
use Rattle.cal_run.specs.Snapshots.{Sight, snapshot_of}
use Rattle.cal_run.specs.declared.operation.Operation.{Operation}
use Rattle.cal_script.specs.declared.journal.LineNote.{LineNote}
use Rattle.cal_script.specs.declared.journal.Placed.{Placed}
use Rattle.cal_script.specs.declared.journal.Reply as replies
use Rattle.cal_script.specs.declared.journal.Reply.TheVariants as reply
use Rattle.cal_script.specs.declared.script.Channel.{Channel}
use Rattle.cal_script.specs.declared.script.Line as lines
use Rattle.cal_script.specs.declared.script.Line.TheVariants as line
use Rattle.cal_script.specs.declared.script.Script.{Script}
use Rattle.cal_words.specs.declared.op.OpCode.TheVariants as code
use Rattle.cal_value.specs.declared.record.Rec.{Rec}
use Rattle.cal_value.specs.declared.variant.Variant.{Variant}

-- What a thread has between two lines: its board, the readings by which the values there were put,
-- and its script clock.
pub record ThreadState : Type 0 where
  pub board : Blackboard Variant
  pub readings : List (Slot ℕ)
  pub clock : ℕ

-- before its first line
abbrev pub at_start : ThreadState
at_start = record { board = nothing_open; readings = []; clock = 0 }

-- A board's reply as a line's. No board of a run says that a tree is full.
abbrev pub as_reply : boards.BoardReply → replies.Reply
as_reply board.Done = reply.Done
as_reply (board.Mismatch top) = reply.Mismatch top
as_reply board.NotOpen = reply.NotOpen
as_reply (board.TreeFull full) = reply.SlotsFull
as_reply board.TooDeep = reply.TooDeep
as_reply board.SlotsFull = reply.SlotsFull

-- every reply but a board's refusal; that to a flush, which only the journal knows, is none
abbrev pub is_accepted : Option replies.Reply → Bool
is_accepted (Some reply.Done) = true
is_accepted _ = false

-- The reply to a line, by the board that it acts on.
abbrev pub reply_to_line : {V : Type 0} → Script → Blackboard V → lines.Line → Option replies.Reply
reply_to_line script b (line.Begin a v) =
    Some (as_reply (reply_to b code.Begin (attr_ref script a)))
reply_to_line script b (line.End a) = Some (as_reply (reply_to b code.End (attr_ref script a)))
reply_to_line script b (line.Set a v) = Some (as_reply (reply_to b code.Set (attr_ref script a)))
reply_to_line script b (line.Flush c) = None
reply_to_line script b line.Snapshot = Some reply.Done
reply_to_line script b (line.Tick n) = Some reply.Done

-- the reading of a line, if it took one
abbrev pub reading_of : LineNote → ℕ
reading_of note = unwrap_or note.reading 0

-- the readings of a thread's values after an accepted line of its own
abbrev pub readings_changed : Script → List (Slot ℕ) → LineNote → Option Operation → List (Slot ℕ)
readings_changed script readings note None = readings
readings_changed script readings note (Some op) =
    readings_after readings op.code (attr_ref script op.attr) (reading_of note)

module _ (script : Script) (history : List Placed) where
  module _ (l : lines.Line) (note : LineNote) where
    -- 1. A process line is placed, and the thread takes in the history up to its place. Another
    -- line that looks takes in the history up to a word that it finds empty.
    abbrev pub seen_before : ℕ
    seen_before = if is_process_line script l then note.seen - 1 else note.seen

    abbrev pub process_seen : Blackboard Variant
    process_seen = process_board script history seen_before

    module _ (state : ThreadState) where
      -- 2. The reply is found. A refused line ends here.
      abbrev pub acted_on : Blackboard Variant
      acted_on = if is_process_line script l then process_seen else state.board

      abbrev pub found_reply : Option replies.Reply
      found_reply = reply_to_line script acted_on l

      abbrev pub is_taken_by : Channel → Bool
      is_taken_by channel = is_accepted found_reply && takes script channel l

      -- 3. A line that takes a snapshot in some channel and is no process line looks.
      abbrev pub looks : Bool
      looks = list_any is_taken_by script.channels && not (is_process_line script l)

      -- 4. Where a channel that takes a snapshot has the timer, one reading is taken for the line.
      abbrev pub is_read : Bool
      is_read = list_any (λ channel. channel.timer && is_taken_by channel) script.channels

      -- 5. The snapshots are taken, channel by channel.
      abbrev pub sight_after : (previous : ℕ) → Sight
      sight_after previous = record {
        mine = state.board;
        process = process_seen;
        readings = state.readings;
        reading = reading_of note;
        previous = previous;
      }

      abbrev pub taken_in : Channel → (previous : ℕ) → List Rec
      taken_in channel previous = if is_taken_by channel
          then snapshot_of script (sight_after previous) channel (operation_of l) ∷ []
          else []

      abbrev pub previous_after : Channel → (previous : ℕ) → ℕ
      previous_after channel previous =
          if channel.timer && is_taken_by channel then reading_of note else previous

      -- 6. The change is made. A process line changes the process's board, by standing in the
      -- history.
      abbrev pub changed : ThreadState
      changed = record {
        board = board_placed script state.board (operation_of l);
        readings = readings_changed script state.readings note (operation_of l);
        clock = clock_after state.clock l;
      }

      abbrev pub state_after : ThreadState
      state_after = if is_accepted found_reply && not (is_process_line script l)
          then changed else state
