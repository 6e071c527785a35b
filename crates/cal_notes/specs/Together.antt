-- The notes of all threads and the whole history, once all lines are done.
use Rattle.std.specs.Prelude.{◌≡◌, ℕ, List, ◌++◌, length, zip, All, Any, Some, slice_get}
use Rattle.cal_notes.specs.Notes.{KeepsRules, OfOthers}
use Rattle.cal_run.specs.Lawful.{IsKnown}
use Rattle.cal_script.specs.declared.journal.Journal.{Journal}
use Rattle.cal_script.specs.declared.journal.LineNote.{LineNote}
use Rattle.cal_script.specs.declared.journal.Placed.{Placed}
use Rattle.cal_script.specs.declared.journal.Reply as replies
use Rattle.cal_script.specs.declared.journal.Reply.TheVariants as reply
use Rattle.cal_script.specs.declared.journal.ThreadNote.{ThreadNote}
use Rattle.cal_script.specs.declared.script.Line as lines
use Rattle.cal_script.specs.declared.script.Line.TheVariants as line
use Rattle.cal_script.specs.declared.script.Script.{Script}

-- A history begins with these operations, and behind them none is the thread's.
pub record Begins (thread : ℕ) (h all : List Placed) : Type 0 where
  pub more : List Placed
  pub whole : all ≡ h ++ more
  pub others : OfOthers thread more

-- a flush of the channel was answered so
abbrev pub WasFlushed : (channel : ℕ) → replies.Reply → lines.Line × LineNote → Type 0
WasFlushed channel answer l = (l.0 ≡ line.Flush channel) × (l.1.reply ≡ answer)

-- among these lines with their notes there is one
abbrev pub HasFlushed : (channel : ℕ) → replies.Reply → List lines.Line → ThreadNote → Type 0
HasFlushed channel answer ls note = Any (WasFlushed channel answer) (zip ls note.lines)

module _ (script : Script) (journal : Journal) where
  -- a thread of the run ran these lines and has this note
  pub record RanLines (thread : ℕ) (ls : List lines.Line) (note : ThreadNote) : Type 0 where
    pub ran : slice_get script.threads thread ≡ Some ls
    pub noted : slice_get journal.threads thread ≡ Some note

  -- The notes of a thread keep the rules by a beginning of the history that has all its operations.
  pub record HasEnded (thread : ℕ) (ls : List lines.Line) (note : ThreadNote) : Type 0 where
    pub known : List Placed
    pub begins : Begins thread known journal.ops
    pub keeps : KeepsRules script journal.real known thread ls note

  -- a thread of the run merged in a flush of the channel
  pub record HasMerged (thread channel : ℕ) : Type 0 where
    pub ls : List lines.Line
    pub note : ThreadNote
    pub ran : RanLines thread ls note
    pub merged : HasFlushed channel reply.Merged ls note

  -- All threads have ended with all their lines noted, the whole history is the script's, and where
  -- a flush was busy, its holder merged.
  pub record HaveEnded : Type 0 where
    pub many : length journal.threads ≡ length script.threads
    pub known : All (IsKnown script) journal.ops
    pub ended : (thread : ℕ) (ls : List lines.Line) (note : ThreadNote)
        → RanLines thread ls note → HasEnded thread ls note
    pub busy : (thread : ℕ) (ls : List lines.Line) (note : ThreadNote)
        → RanLines thread ls note
        → (channel holder : ℕ) → HasFlushed channel (reply.Busy holder) ls note
        → HasMerged holder channel
