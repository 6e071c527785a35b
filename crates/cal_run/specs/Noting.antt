-- How the plain journal is made: a thread is kept by the outline of its board, behind all
-- operations before it.
use Rattle.std.specs.Prelude.{◌≡◌, ℕ, ◌+◌, ◌≤◌, List, length, Bool, if◌then◌else◌, ◌&&◌}
use Rattle.std.specs.Prelude.{Option, Some, None, unwrap_or}
use Rattle.std.specs.List.{list_any}
use Rattle.cal_board.specs.Blackboard.{Blackboard}
use Rattle.cal_board.specs.Standing.{Stands, StandsForSome, StandsThen}
use Rattle.cal_run.specs.History.{process_board}
use Rattle.cal_run.specs.Lines.{is_process_line, takes}
use Rattle.cal_run.specs.Plain.{note_of, plain_history}
use Rattle.cal_run.specs.Steps.{ThreadState, is_accepted, state_after}
use Rattle.cal_run.specs.declared.noting.Plain.{Plain}
use Rattle.cal_run.specs.declared.outline.Nothing.{Nothing}
use Rattle.cal_run.specs.declared.placed.PlacedProcess.{PlacedProcess}
use Rattle.cal_script.specs.declared.journal.LineNote.{LineNote}
use Rattle.cal_script.specs.declared.journal.Placed.{Placed}
use Rattle.cal_script.specs.declared.journal.Reply as replies
use Rattle.cal_script.specs.declared.journal.Reply.TheVariants as reply
use Rattle.cal_script.specs.declared.script.Line.{Line}
use Rattle.cal_script.specs.declared.script.Script.{Script}
use Rattle.cal_value.specs.declared.variant.Variant.{Variant}

-- An outline has the slots of this board, with the attributes of their open values.
abbrev pub Outlines : Blackboard Nothing → Blackboard Variant → Type 0
Outlines = Stands (λ _ _. Unit {0})

-- of some board
abbrev pub OutlinesSome : Blackboard Nothing → Type 0
OutlinesSome = StandsForSome (λ _ _. Unit {0})

-- an outline of a board before is one of the changed board now
abbrev pub OutlinesThen : (old new : Blackboard Nothing)
    → (Blackboard Variant → Blackboard Variant) → Type 0
OutlinesThen = StandsThen (λ _ _. Unit {0}) (λ _ _. Unit {0})

-- a thread is kept: the outline of its board, and its clock
pub record IsPlain (thread : Plain) (state : ThreadState) : Type 0 where
  pub mine : Outlines thread.board state.board
  pub clock : thread.clock ≡ state.clock

-- for some state
abbrev pub IsSomePlain : Plain → Type 0
IsSomePlain thread = (state : ThreadState) × IsPlain thread state

-- the process's board after so many operations of a history is kept
pub record HoldsPlaced (script : Script) (history : List Placed) (p : PlacedProcess) : Type 0 where
  pub holds : Outlines p.board (process_board script history p.count)
  pub within : p.count ≤ length history

-- how many operations stand behind a line
abbrev pub before_after : Script → ℕ → Line → ℕ
before_after script before l = if is_process_line script l then before + 1 else before

-- whether a channel takes a snapshot on a line with this reply
abbrev pub is_taken : Script → Line → Option replies.Reply → Bool
is_taken script l found =
    list_any (λ channel. is_accepted found && takes script channel l) script.channels

abbrev pub is_timed : Script → Line → Option replies.Reply → Bool
is_timed script l found =
    list_any (λ channel. channel.timer && (is_accepted found && takes script channel l))
    script.channels

-- what a line has seen, and its reading, by the reply that was found
abbrev pub seen_with : Script → (before seen : ℕ) → Line → Option replies.Reply → ℕ
seen_with script before seen l found = if is_process_line script l then before + 1
    else (if is_taken script l found then before else seen)

abbrev pub reading_with : Script → (clock : ℕ) → Line → Option replies.Reply → Option ℕ
reading_with script clock l found = if is_timed script l found then Some clock else None

-- the note of a line by that reply and a reading, and by the one that it takes
abbrev pub noted_as : Script → (before seen : ℕ) → Line → Option replies.Reply → Option ℕ
    → LineNote
noted_as script before seen l found reading = record {
  reply = unwrap_or found reply.Merged;
  seen = seen_with script before seen l found;
  reading = reading;
}

abbrev pub noted : Script → (before seen clock : ℕ) → Line → Option replies.Reply → LineNote
noted script before seen clock l found =
    noted_as script before seen l found (reading_with script clock l found)

-- A line was noted, and the thread is kept as the line leaves it.
pub record IsNoted (script : Script) (before had : ℕ) (l : Line) (note : LineNote)
    (thread : Plain) (state : ThreadState) : Type 0 where
  pub made : note ≡ note_of script before had state l
  pub seen : thread.seen ≡ note.seen
  pub kept : IsPlain thread (state_after script (plain_history script) l note state)
