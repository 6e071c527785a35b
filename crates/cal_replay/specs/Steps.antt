-- What a line does to a worker, by what its thread has seen of the history meanwhile.
use Rattle.std.specs.Prelude.{◌≡◌, ℕ, ◌+◌, Bool, true, false, List, [], ◌∷◌, ◌++◌, length}
use Rattle.std.specs.Prelude.{Option, Some, None, is_some, if◌then◌else◌}
use Rattle.cal_notes.specs.Notes.{IsFlushNote}
use Rattle.cal_notes.specs.Running.{RunsNext, with_line}
use Rattle.cal_once.specs.Seats.{view}
use Rattle.cal_once.specs.Views.{KnowsMore}
use Rattle.cal_process.specs.Operations.{history_of, placed_as}
pub use Rattle.cal_process.specs.Operations.{own_words}
use Rattle.cal_process.specs.Takings.{KeepsLooks, words_of_ops}
use Rattle.cal_process.specs.Replicas.{AddsWords}
use Rattle.cal_process.specs.declared.common.Common.{Common}
use Rattle.cal_replay.specs.Channels.{IsToldAs}
use Rattle.cal_replay.specs.Readings.{Asked, AskedFor, off_clock, readings_of}
use Rattle.cal_replay.specs.Workers.{IsWorker, lines_done, lines_of, script_of, state_of}
use Rattle.cal_replay.specs.declared.answer.Answer.{Answer}
use Rattle.cal_replay.specs.declared.shared.Shared.{Shared}
use Rattle.cal_replay.specs.declared.showing.ShownLine.{ShownLine}
use Rattle.cal_replay.specs.declared.worker.Worker.{Worker}
use Rattle.cal_run.specs.Lawful.{NotedLine}
use Rattle.cal_run.specs.Lines.{is_process_line, line_at}
use Rattle.cal_run.specs.Steps.{ThreadState, looks, state_after}
use Rattle.cal_script.specs.declared.journal.LineNote.{LineNote}
use Rattle.cal_script.specs.declared.journal.Reply as replies
use Rattle.cal_script.specs.declared.script.Line as lines
use Rattle.cal_script.specs.declared.script.Line.TheVariants as line
use Rattle.cal_script.specs.declared.script.Script.{Script}
use Rattle.cal_thread.specs.Lines.{Looks}
use Rattle.cal_thread.specs.Threads.{IsThread}
use Rattle.cal_thread.specs.declared.thread.Thread.{Thread}
use Rattle.cal_words.specs.declared.op.OpRec.{OpRec}

-- the note of a line by what it was answered, and by what its thread has seen behind it
abbrev pub noted_with : Answer → Thread → LineNote
noted_with answer t = record {
  reply = answer.reply;
  seen = t.process.seen;
  reading = answer.reading;
}

-- a line of a thread that has done so many and has seen so much
abbrev pub noted_line : Thread → (done seen : ℕ) → lines.Line → LineNote → ThreadState → NotedLine
noted_line t done seen l note state = record {
  thread = t.number;
  number = done + 1;
  line = l;
  note = note;
  before = seen;
  state = state;
}

-- A reply is the one that is found; or, where none is, one that a thread gets to a flush.
abbrev pub IsGiven : (thread : ℕ) → Option replies.Reply → replies.Reply → Type 0
IsGiven thread None given = IsFlushNote thread given
IsGiven thread (Some found) given = given ≡ found

-- boards reply to every line but to a flush
abbrev pub HasReply : lines.Line → Option replies.Reply → Type 0
HasReply (line.Flush c) found = found ≡ None
HasReply _ found = is_some found ≡ true

-- A flush line with this reply does that to whoever flushes; another line leaves them.
abbrev pub Flushes : {F : Type 0} → (F → F → ℕ → replies.Reply → Type 0) → (old new : F)
    → lines.Line → replies.Reply → Type 0
Flushes flushed old new (line.Flush c) given = flushed old new c given
Flushes flushed old new _ given = new ≡ old

-- A line was shown to whoever keeps the channels, with its thread as it was then; and a flush was
-- flushed behind that.
pub record Tells {F : Type 0} (showing : Common → F → F → Thread → ShownLine → Type 0)
    (flushed : F → F → ℕ → replies.Reply → Type 0) (common : Common) (had has : F)
    (l : lines.Line) (given : replies.Reply) : Type 0 where
  pub at : Thread
  pub told : ShownLine
  pub line_is : told.line ≡ l
  pub between : F
  pub shown : showing common had between at told
  pub flushes : Flushes flushed between has l given

-- By a line the thread's seat at the tree learned: up to where it was told, and behind that.
abbrev pub KnowMore : (old at new : Thread) → Type 0
KnowMore old at new =
    KnowsMore (view old.tree) (view at.tree) × KnowsMore (view at.tree) (view new.tree)

-- the words that a line takes in the history
abbrev pub placed_words : Script → lines.Line → ℕ
placed_words script l = if is_process_line script l then 7 else 0

-- ---- what a line sees

-- A process line was placed behind all that its thread has seen by then, and sees its own place.
pub record SeesPlace (old new : Thread) (done : ℕ) (ops : List OpRec) : Type 0 where
  pub before : List OpRec
  pub op : OpRec
  pub ops_are : ops ≡ before ++ op ∷ []
  pub own : placed_as op ≡ record { thread = old.number; line = done + 1 }
  pub published : (view new.process.log).published
      ≡ (view old.process.log).published ++ (old.process.seen + length before) ∷ []
  pub looks : KeepsLooks old.process new.process

module _ (shared : Shared) where
  -- Another line looks where a channel takes a snapshot: then what it has seen ends at a slot that
  -- was found empty, or at the end of the slots. Else it sees nothing more.
  abbrev pub Sees : (old new : Thread) → (done : ℕ) → List OpRec → (process look : Bool) → Type 0
  Sees old new done ops true look = SeesPlace old new done ops
  Sees old new done ops false look = Looks shared.common old.process new.process ops look

  -- ---- what a line does

  -- The words that a line uses: in the history those of its own operation, and in the tree at most
  -- those of the nodes that it makes and that the operations make which it takes in.
  pub record UsesWords (old new : Thread) (l : lines.Line) (ops : List OpRec) : Type 0 where
    pub placed : (view new.process.log).used
        ≡ (view old.process.log).used + placed_words (script_of shared) l
    pub made : AddsWords shared.common old.tree new.tree
        (words_of_ops (script_of shared) ops + own_words (script_of shared) l)

  -- A thread ran a line with this note, and has seen these operations more: the line keeps the
  -- rules of journals by them, it was told as its note has it, and the thread is as the line leaves
  -- it.
  pub record Runs (old at new : Thread) (told : ShownLine) (l : lines.Line) (note : LineNote)
      (done : ℕ) (h : List OpRec) (state : ThreadState) : Type 0 where
    pub ops : List OpRec
    pub next : (seen : ℕ) → RunsNext (script_of shared) shared.real (history_of h)
        (history_of ops) (noted_line old done seen l note state)
    pub sees : Sees old new done ops (is_process_line (script_of shared) l)
        (looks (script_of shared) (history_of h ++ history_of ops) l note state)
    pub words : UsesWords old new l ops
    pub told_as : IsToldAs shared.common at told h ops note state
    pub learns : KnowMore old at new
    pub kept : IsThread shared.common new (done + 1) (h ++ ops)
        (state_after (script_of shared) (history_of h ++ history_of ops) l note state)

  -- And a worker, whose notes are longer by it.
  pub record RunsLine (at : Thread) (told : ShownLine) (old new : Worker) (l : lines.Line)
      (note : LineNote) (h : List OpRec) : Type 0 where
    pub ops : List OpRec
    pub sees : Sees old.thread new.thread (length old.note.lines) ops
        (is_process_line (script_of shared) l)
        (looks (script_of shared) (history_of h ++ history_of ops) l note
        (state_of (script_of shared) h old))
    pub words : UsesWords old.thread new.thread l ops
    pub told_as : IsToldAs shared.common at told h ops note (state_of (script_of shared) h old)
    pub learns : KnowMore old.thread at new.thread
    pub kept : IsWorker shared new (h ++ ops)

  -- A worker ran its next line, and noted it. A clock was asked for the line's reading, where it
  -- has one and the run goes by real clocks; the channels were told it as it was noted, and a flush
  -- was flushed.
  pub record StepsOver {K F : Type 0} (given : K → Option (List ℕ))
      (showing : Common → F → F → Thread → ShownLine → Type 0)
      (flushed : F → F → ℕ → replies.Reply → Type 0) (was is : K) (had has : F)
      (old new : Worker) : Type 0 where
    pub ran : lines.Line
    pub next : line_at (script_of shared) old.thread.number (length old.note.lines + 1)
        ≡ Some ran
    pub note : LineNote
    pub noted : new.note ≡ with_line old.note note
    pub number : new.thread.number ≡ old.thread.number
    pub asked : Asked given was is (off_clock shared.real note.reading)
    pub tells : Tells showing flushed shared.common had has ran note.reply
    pub runs : (h : List OpRec) → IsWorker shared old h
        → RunsLine tells.at tells.told old new ran note h

  -- ---- what all lines do

  -- A worker has done all its lines, and has seen these operations more.
  pub record RunsAll (new : Worker) (h : List OpRec) : Type 0 where
    pub ops : List OpRec
    pub kept : IsWorker shared new (h ++ ops)
    pub all : lines_done (script_of shared) new
        ≡ lines_of (script_of shared) new.thread.number

  -- Its notes are longer by these, for whose readings a clock was asked.
  abbrev pub HasRead : {K : Type 0} → (given : K → Option (List ℕ)) → (was is : K)
      → (old new : Worker) → Type 0
  HasRead given was is old new = (added : List LineNote)
      × (new.note.lines ≡ old.note.lines ++ added)
      × AskedFor given shared.real was is (readings_of added)
