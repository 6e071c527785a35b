-- The journal of the threads one after another, the first one first, with the script clock and each
-- flush merged. (Giltmoth's rule.)
use Rattle.std.specs.Prelude.{ℕ, ◌+◌, false, List, [], ◌∷◌, length, map, flat_map}
use Rattle.std.specs.Prelude.{if◌then◌else◌, Some, None, unwrap_or}
use Rattle.std.specs.List.{enumerate_from}
use Rattle.cal_run.specs.Lawful.{process_lines, takes_start_reading}
use Rattle.cal_run.specs.Lines.{is_process_line}
use Rattle.cal_run.specs.Steps.{ThreadState, at_start, found_reply, is_read, looks, state_after}
use Rattle.cal_script.specs.declared.journal.Journal.{Journal}
use Rattle.cal_script.specs.declared.journal.LineNote.{LineNote}
use Rattle.cal_script.specs.declared.journal.Placed.{Placed}
use Rattle.cal_script.specs.declared.journal.Reply.TheVariants as reply
use Rattle.cal_script.specs.declared.journal.ThreadNote.{ThreadNote}
use Rattle.cal_script.specs.declared.script.Line.{Line}
use Rattle.cal_script.specs.declared.script.Script.{Script}

module _ (script : Script) where
  -- the process lines of a thread, as they are placed
  abbrev pub placed_lines : ℕ × List Line → List Placed
  placed_lines t = map (λ n. record { thread = t.0; line = n }) (process_lines script t.1)

  -- all process lines
  abbrev pub plain_history : List Placed
  plain_history = flat_map placed_lines (enumerate_from 0 script.threads)

  -- What a line meets behind so many operations: those, and on a process line itself.
  abbrev pub met : (before : ℕ) → ThreadState → Line → LineNote
  met before state l = record {
    reply = reply.Merged;
    seen = if is_process_line script l then before + 1 else before;
    reading = Some state.clock;
  }

  -- The note of a line, whose thread had seen so much: what it met, as far as it looked and read.
  abbrev pub note_of : (before seen : ℕ) → ThreadState → Line → LineNote
  note_of before seen state l = record {
    reply = unwrap_or (found_reply script plain_history l (met before state l) state) reply.Merged;
    seen = if is_process_line script l then before + 1
        else (if looks script plain_history l (met before state l) state then before else seen);
    reading = if is_read script plain_history l (met before state l) state
        then Some state.clock else None;
  }

  abbrev pub notes_from : (before seen : ℕ) → ThreadState → List Line → List LineNote
  notes_from before seen state [] = []
  notes_from before seen state (l ∷ ls) =
      note_of before seen state l
      ∷ notes_from (if is_process_line script l then before + 1 else before)
      (note_of before seen state l).seen
      (state_after script plain_history l (note_of before seen state l) state) ls

  abbrev pub threads_from : (before : ℕ) → List (List Line) → List ThreadNote
  threads_from before [] = []
  threads_from before (thread ∷ threads) = record {
    start = if takes_start_reading script then Some 0 else None;
    lines = notes_from before 0 at_start thread;
  } ∷ threads_from (before + length (process_lines script thread)) threads

  abbrev pub plain : Journal
  plain = record {
    real = false;
    ops = plain_history;
    threads = threads_from 0 script.threads;
  }
