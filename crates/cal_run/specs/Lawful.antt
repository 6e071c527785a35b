-- When a journal is lawful for a script. (Giltmoth's rules.) The reader has seen to its form; of
-- the nine rules left, each in its order here, the first that is broken is told.
use Rattle.std.specs.Prelude.{◌≡◌, ℕ, ◌+◌, ◌-◌, ◌<◌, ◌≤◌, ◌≢◌, Bool, true, false, List, [], ◌∷◌}
use Rattle.std.specs.Prelude.{length, zip, flat_map, filter_map, All, Any}
use Rattle.std.specs.Prelude.{◌==◌, if◌then◌else◌, slice_get, is_some, Option, Some, None}
use Rattle.std.specs.List.{AllZip, enumerate_from, list_any}
use Rattle.cal_run.specs.Lines.{is_process_line, line_at}
use Rattle.cal_run.specs.Steps.{ThreadState, at_start, found_reply, is_read, looks, state_after}
use Rattle.cal_script.specs.declared.journal.Journal.{Journal}
use Rattle.cal_script.specs.declared.journal.LineNote.{LineNote}
use Rattle.cal_script.specs.declared.journal.Placed.{Placed}
use Rattle.cal_script.specs.declared.journal.Reply as replies
use Rattle.cal_script.specs.declared.journal.Reply.TheVariants as reply
use Rattle.cal_script.specs.declared.journal.ThreadNote.{ThreadNote}
use Rattle.cal_script.specs.declared.script.Line as lines
use Rattle.cal_script.specs.declared.script.Line.TheVariants as line
use Rattle.cal_script.specs.declared.script.Script.{Script}

-- ---- the history

-- Shape. There is a note of each thread, and in it a note of each of its lines.
abbrev pub HasShape : Script → Journal → Type 0
HasShape script journal =
    AllZip (λ (thread : List lines.Line) (note : ThreadNote). length note.lines ≡ length thread)
    script.threads journal.threads

-- OpStranger. An operation of the history names a process line of the script.
abbrev pub names_process_line : Script → Option lines.Line → Bool
names_process_line script None = false
names_process_line script (Some l) = is_process_line script l

abbrev pub IsKnown : Script → Placed → Type 0
IsKnown script op = names_process_line script (line_at script op.thread op.line) ≡ true

-- the numbers of a thread's process lines, in line order
abbrev pub process_lines : Script → List lines.Line → List ℕ
process_lines script thread = filter_map
    (λ (l : ℕ × lines.Line). if is_process_line script l.1 then Some l.0 else None)
    (enumerate_from 1 thread)

-- the numbers that the history has of a thread
abbrev pub placed_of : ℕ → List Placed → List ℕ
placed_of thread history =
    filter_map (λ (op : Placed). if op.thread == thread then Some op.line else None) history

-- OpOrder. The history has the process lines of each thread, in line order, and each once.
abbrev pub HasOrder : Script → List Placed → Type 0
HasOrder script history = (thread : ℕ) (ls : List lines.Line)
    → slice_get script.threads thread ≡ Some ls
    → placed_of thread history ≡ process_lines script ls

-- ---- the lines

-- A line with its note: its thread, its number in it from 1, how many operations the line before it
-- had seen, and the thread's state then.
pub record NotedLine : Type 0 where
  pub thread : ℕ
  pub number : ℕ
  pub line : lines.Line
  pub note : LineNote
  pub before : ℕ
  pub state : ThreadState

abbrev pub noted_from : Script → List Placed → (thread number before : ℕ) → ThreadState
    → List (lines.Line × LineNote) → List NotedLine
noted_from script history thread number before state [] = []
noted_from script history thread number before state (l ∷ ls) = record {
  thread = thread;
  number = number;
  line = l.0;
  note = l.1;
  before = before;
  state = state;
} ∷ noted_from script history thread (number + 1) l.1.seen
    (state_after script history l.0 l.1 state) ls

-- the lines of a thread, before which nothing is seen
abbrev pub noted_of : Script → List Placed → ℕ × (List lines.Line × ThreadNote) → List NotedLine
noted_of script history thread =
    noted_from script history thread.0 1 0 at_start (zip thread.1.0 thread.1.1.lines)

-- a thread takes a start reading where some channel has the timer
abbrev pub takes_start_reading : Script → Bool
takes_start_reading script = list_any (λ channel. channel.timer) script.channels

module _ (script : Script) (journal : Journal) where
  -- the lines of all threads, in order
  abbrev pub noted_lines : List NotedLine
  noted_lines = flat_map (noted_of script journal.ops)
      (enumerate_from 0 (zip script.threads journal.threads))

  -- SeenFalls. SEEN never falls from a line to the next.
  abbrev pub SeenRises : NotedLine → Type 0
  SeenRises n = n.before ≤ n.note.seen

  -- SeenPast. It is at most the length of the history.
  abbrev pub SeenWithin : NotedLine → Type 0
  SeenWithin n = n.note.seen ≤ length journal.ops

  -- SeenOwn. A process line has seen its own place in the history, and no more; the line before it
  -- has seen at most what stands before that place.
  pub record SeesOwn (n : NotedLine) : Type 0 where
    pub some : 0 < n.note.seen
    pub own : slice_get journal.ops (n.note.seen - 1)
        ≡ Some (record { thread = n.thread; line = n.number })
    pub before : n.before < n.note.seen

  abbrev pub SeenOwn : NotedLine → Type 0
  SeenOwn n = is_process_line script n.line ≡ true → SeesOwn n

  -- SeenFixed. A line that is no process line and doesn't look has seen what the one before had.
  abbrev pub SeenFixed : NotedLine → Type 0
  SeenFixed n = is_process_line script n.line ≡ false
      → looks script journal.ops n.line n.note n.state ≡ false → n.note.seen ≡ n.before

  -- Reading. A reading is there exactly where one is taken, and with the script clock it is the
  -- value of that clock, which at the start is 0.
  pub record IsRead (due : Bool) (clock : ℕ) (reading : Option ℕ) : Type 0 where
    pub there : is_some reading ≡ due
    pub value : journal.real ≡ false → due ≡ true → reading ≡ Some clock

  abbrev pub StartIsRead : ThreadNote → Type 0
  StartIsRead note = IsRead (takes_start_reading script) 0 note.start

  abbrev pub LineIsRead : NotedLine → Type 0
  LineIsRead n =
      IsRead (is_read script journal.ops n.line n.note n.state) n.state.clock n.note.reading

  -- Reply. It is the one that is found. That to a flush is merged, or busy with another thread, of
  -- which a flush of that channel was merged.
  abbrev pub IsMerged : (thread channel : ℕ) → NotedLine → Type 0
  IsMerged thread channel n =
      (n.thread ≡ thread) × (n.line ≡ line.Flush channel) × (n.note.reply ≡ reply.Merged)

  abbrev pub IsFlushReply : ℕ → lines.Line → replies.Reply → Type 0
  IsFlushReply thread (line.Flush channel) reply.Merged = Unit {0}
  IsFlushReply thread (line.Flush channel) (reply.Busy holder) =
      (holder ≢ thread) × Any (IsMerged holder channel) noted_lines
  IsFlushReply thread _ _ = ⊥

  abbrev pub IsAnswer : NotedLine → Option replies.Reply → Type 0
  IsAnswer n None = IsFlushReply n.thread n.line n.note.reply
  IsAnswer n (Some found) = n.note.reply ≡ found

  abbrev pub IsAnswered : NotedLine → Type 0
  IsAnswered n = IsAnswer n (found_reply script journal.ops n.line n.note n.state)

  -- It keeps them all.
  pub record Lawful : Type 0 where
    pub shape : HasShape script journal
    pub known : All (IsKnown script) journal.ops
    pub order : HasOrder script journal.ops
    pub rises : All SeenRises noted_lines
    pub within : All SeenWithin noted_lines
    pub own : All SeenOwn noted_lines
    pub fixed : All SeenFixed noted_lines
    pub starts : All StartIsRead journal.threads
    pub read : All LineIsRead noted_lines
    pub answered : All IsAnswered noted_lines
