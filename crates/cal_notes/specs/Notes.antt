-- What one thread noted, said by the beginning of the history that it knows.
use Rattle.std.specs.Prelude.{◌≡◌, ◌≢◌, ℕ, Bool, List, [], length, All, Option, Some, None}
use Rattle.cal_run.specs.Lawful.{LineIsRead, NotedLine, SeenFixed, SeenOwn, SeenRises, SeenWithin}
use Rattle.cal_run.specs.Lawful.{StartIsRead, noted_of, placed_of, process_lines}
use Rattle.cal_run.specs.Steps.{found_reply}
use Rattle.cal_script.specs.declared.journal.Journal.{Journal}
use Rattle.cal_script.specs.declared.journal.Placed.{Placed}
use Rattle.cal_script.specs.declared.journal.Reply as replies
use Rattle.cal_script.specs.declared.journal.Reply.TheVariants as reply
use Rattle.cal_script.specs.declared.journal.ThreadNote.{ThreadNote}
use Rattle.cal_script.specs.declared.script.Line.{Line}
use Rattle.cal_script.specs.declared.script.Script.{Script}

-- The journal as a thread knows it: which clock was read, and a beginning of the history. None of
-- the rules here asks for notes of threads.
abbrev pub known_journal : (real : Bool) → List Placed → Journal
known_journal real h = record { real = real; ops = h; threads = [] }

-- none of these operations is the thread's
abbrev pub OfOthers : (thread : ℕ) → List Placed → Type 0
OfOthers thread ops = All (λ (op : Placed). op.thread ≢ thread) ops

-- The reply to a flush is merged, or busy with another thread. That this one merged is said of all
-- threads together.
abbrev pub IsFlushNote : (thread : ℕ) → replies.Reply → Type 0
IsFlushNote thread reply.Merged = Unit {0}
IsFlushNote thread (reply.Busy holder) = holder ≢ thread
IsFlushNote thread _ = ⊥

-- The reply is the one that is found; to a flush none is.
abbrev pub IsNotedReply : NotedLine → Option replies.Reply → Type 0
IsNotedReply n None = IsFlushNote n.thread n.note.reply
IsNotedReply n (Some found) = n.note.reply ≡ found

-- A line keeps the journal's rules, but for who merged where its flush was busy.
pub record LineKeeps (script : Script) (journal : Journal) (n : NotedLine) : Type 0 where
  pub rises : SeenRises script journal n
  pub within : SeenWithin script journal n
  pub own : SeenOwn script journal n
  pub fixed : SeenFixed script journal n
  pub read : LineIsRead script journal n
  pub answered : IsNotedReply n (found_reply script journal.ops n.line n.note n.state)

-- A thread's notes of its first lines keep the rules by what it knows of the history: there is one
-- of each line, the start reading and each line are as they should be, and the thread's operations
-- in the history are those of these lines, in order.
pub record KeepsRules (script : Script) (real : Bool) (h : List Placed) (thread : ℕ)
    (ls : List Line) (note : ThreadNote) : Type 0 where
  pub long : length note.lines ≡ length ls
  pub start : StartIsRead script (known_journal real h) note
  pub lines : All (LineKeeps script (known_journal real h)) (noted_of script h (thread, (ls, note)))
  pub order : placed_of thread h ≡ process_lines script ls
