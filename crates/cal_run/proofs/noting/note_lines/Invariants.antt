use Rattle.std.proofs.Common.{◌≡◌, ◌+◌, ◌++◌, drop, length}
use Rattle.cal_run.specs.Lawful.{process_lines}
use Rattle.cal_run.specs.Noting.{HoldsPlaced, IsPlain}
use Rattle.cal_run.specs.Plain.{notes_from}
use Rattle.cal_run.specs.Steps.{ThreadState, at_start}
use Rattle.cal_run.proofs.noting.note_lines.Given as goal

-- The thread and the process are kept as the lines so far leave them; the notes of the lines that
-- are left make the thread's notes whole.
abbrev pub invariant-loop-place : goal.invariant-loop-place
invariant-loop-place l = record {
  process : HoldsPlaced l.script l.history l.process;
  count : l.process.count + length (process_lines l.script (drop l.place l.lines))
      ≡ l.fn.process.count + length (process_lines l.script l.lines);
  so_far : (state : ThreadState) × IsPlain l.thread state
      × (l.notes ++ notes_from l.script l.process.count l.thread.seen state (drop l.place l.lines)
      ≡ notes_from l.script l.fn.process.count 0 at_start l.lines);
}
