-- A thread that runs, line after line: what its next line may note, by what it learns of the
-- history meanwhile.
use Rattle.std.specs.Prelude.{◌≡◌, ℕ, ◌+◌, Bool, true, false, List, [], ◌∷◌, ◌++◌, length, zip}
use Rattle.std.specs.Prelude.{if◌then◌else◌, Option, fold, unwrap_or}
use Rattle.cal_notes.specs.Notes.{IsNotedReply, KeepsRules, OfOthers, known_journal}
use Rattle.cal_run.specs.Lawful.{LineIsRead, NotedLine}
use Rattle.cal_run.specs.Lines.{is_process_line}
use Rattle.cal_run.specs.Runs.{state_after_lines}
use Rattle.cal_run.specs.Steps.{ThreadState, at_start, found_reply, looks, previous_after}
use Rattle.cal_run.specs.Steps.{state_after}
use Rattle.cal_script.specs.declared.journal.LineNote.{LineNote}
use Rattle.cal_script.specs.declared.journal.Placed.{Placed}
use Rattle.cal_script.specs.declared.journal.ThreadNote.{ThreadNote}
use Rattle.cal_script.specs.declared.script.Channel.{Channel}
use Rattle.cal_script.specs.declared.script.Line.{Line}
use Rattle.cal_script.specs.declared.script.Script.{Script}

-- ---- behind lines

-- how many operations a thread has seen behind lines with these notes
abbrev pub seen_from : (before : ℕ) → List LineNote → ℕ
seen_from = fold (λ (before : ℕ) (n : LineNote). n.seen)

abbrev pub seen_behind : ThreadNote → ℕ
seen_behind note = seen_from 0 note.lines

-- the state of a thread behind these lines
abbrev pub state_behind : Script → List Placed → List Line → ThreadNote → ThreadState
state_behind script h ls note = state_after_lines script h at_start (zip ls note.lines)

-- A thread's notes keep the rules, and it has seen all that it knows of the history.
pub record HasNoted (script : Script) (real : Bool) (h : List Placed) (thread : ℕ)
    (ls : List Line) (note : ThreadNote) : Type 0 where
  pub rules : KeepsRules script real h thread ls note
  pub seen : seen_behind note ≡ length h

-- the note of a thread before its first line, and with a line's note at the end
abbrev pub started : Option ℕ → ThreadNote
started start = record { start = start; lines = [] }

abbrev pub with_line : ThreadNote → LineNote → ThreadNote
with_line note n = record { start = note.start; lines = note.lines ++ n ∷ [] }

-- ---- the next line

-- the next line of a thread, with its note
abbrev pub next_line : Script → List Placed → (thread : ℕ) → List Line → ThreadNote → Line
    → LineNote → NotedLine
next_line script h thread ls note l n = record {
  thread = thread;
  number = length ls + 1;
  line = l;
  note = n;
  before = seen_behind note;
  state = state_behind script h ls note;
}

-- the number that a line has in the history, if it is a process line
abbrev pub number_placed : Script → (number : ℕ) → Line → List ℕ
number_placed script number l = if is_process_line script l then number ∷ [] else []

-- the operation of a line as the journal has it
abbrev pub own_place : NotedLine → Placed
own_place n = record { thread = n.thread; line = n.number }

-- What a thread learns of the history by a line: by a process line its own operation, behind others
-- of other threads; by a line that looks others; and else nothing.
abbrev pub Learns : (process look : Bool) → (own : Placed) → List Placed → Type 0
Learns true look own more =
    (others : List Placed) × OfOthers own.thread others × (more ≡ others ++ own ∷ [])
Learns false true own more = OfOthers own.thread more
Learns false false own more = more ≡ []

-- A running thread's next line: with it the thread learns `more` of the history, and has seen that;
-- it takes a reading as it should, and notes the reply.
pub record RunsNext (script : Script) (real : Bool) (h more : List Placed) (n : NotedLine)
    : Type 0 where
  pub seen : n.note.seen ≡ length (h ++ more)
  pub learns : Learns (is_process_line script n.line)
      (looks script (h ++ more) n.line n.note n.state) (own_place n) more
  pub read : LineIsRead script (known_journal real (h ++ more)) n
  pub answered : IsNotedReply n (found_reply script (h ++ more) n.line n.note n.state)

-- ---- snapshots

-- the last reading of a channel behind lines with these notes
abbrev pub previous_from : Script → List Placed → Channel → ThreadState → (previous : ℕ)
    → List (Line × LineNote) → ℕ
previous_from script h channel state previous [] = previous
previous_from script h channel state previous (l ∷ ls) =
    previous_from script h channel (state_after script h l.0 l.1 state)
    (previous_after script h l.0 l.1 state channel previous) ls

abbrev pub previous_behind : Script → List Placed → Channel → List Line → ThreadNote → ℕ
previous_behind script h channel ls note = previous_from script h channel at_start
    (unwrap_or note.start 0) (zip ls note.lines)
