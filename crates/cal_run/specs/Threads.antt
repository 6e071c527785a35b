-- How a run keeps a thread between two lines, and what it does with a line.
use Rattle.std.specs.Prelude.{◌≡◌, ℕ, ◌<◌, ◌≤◌, List, length, true}
use Rattle.cal_context.specs.Taking.{TakesMore}
use Rattle.cal_context.specs.Tree.{Tree}
use Rattle.cal_run.specs.Held.{Holds, IsProcess}
use Rattle.cal_run.specs.Lines.{is_process_line}
use Rattle.cal_run.specs.Snapshots.{Sight}
use Rattle.cal_run.specs.Steps.{ThreadState, previous_after, reading_of, seen_before}
use Rattle.cal_run.specs.Steps.{state_after, taken_in}
use Rattle.cal_run.specs.declared.thread.Thread.{Thread}
use Rattle.cal_script.specs.declared.journal.LineNote.{LineNote}
use Rattle.cal_script.specs.declared.journal.Placed.{Placed}
use Rattle.cal_script.specs.declared.script.Channel.{Channel}
use Rattle.cal_script.specs.declared.script.Line.{Line}
use Rattle.cal_script.specs.declared.script.Script.{Script}
use Rattle.cal_value.specs.declared.record.Rec.{Rec}

-- a thread is kept in a context: its board, the readings where they are kept, and the process's
-- board as it has seen it
pub record IsThread (t : Tree) (script : Script) (history : List Placed) (thread : Thread)
    (state : ThreadState) (before : ℕ) : Type 0 where
  pub mine : Holds t script thread.board state.board
  pub process : IsProcess t script history thread.process
  pub readings : thread.timed ≡ true → thread.readings ≡ state.readings
  pub previous : thread.previous ≡ before

-- for some state
abbrev pub IsSomeThread : Tree → Script → List Placed → Thread → Type 0
IsSomeThread t script history thread =
    (state : ThreadState) × (previous : ℕ) × IsThread t script history thread state previous

-- what a thread shows is what a snapshot sees
pub record ShowsThread (t : Tree) (script : Script) (thread : Thread) (note : LineNote) (s : Sight)
    : Type 0 where
  pub mine : Holds t script thread.board s.mine
  pub process : Holds t script thread.process.board s.process
  pub readings : thread.timed ≡ true → thread.readings ≡ s.readings
  pub reading : reading_of note ≡ s.reading
  pub previous : thread.previous ≡ s.previous

-- A line can be run behind what a thread has seen: it sees no less, at most the whole history, and
-- a process line some place of its own.
pub record CanRun (script : Script) (history : List Placed) (thread : Thread) (l : Line)
    (note : LineNote) : Type 0 where
  pub some : is_process_line script l ≡ true → 0 < note.seen
  pub more : thread.process.count ≤ seen_before script history l note
  pub within : note.seen ≤ length history

-- What a line does: what it takes was taken, and the thread is kept as the line leaves it.
pub record RunsLine (t : Tree) (script : Script) (history : List Placed) (thread : Thread)
    (channel : Channel) (l : Line) (note : LineNote) (had has : List Rec → Type 0)
    (state : ThreadState) (previous : ℕ) : Type 0 where
  pub taken : TakesMore had has (taken_in script history l note state channel previous)
  pub kept : IsThread t script history thread
      (state_after script history l note state)
      (previous_after script history l note state channel previous)
