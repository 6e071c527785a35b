use Rattle.std.proofs.Common.{◌≡◌, ◌+◌, ◌++◌, drop, length}
use Rattle.cal_run.specs.Noting.{HoldsPlaced}
use Rattle.cal_run.specs.Plain.{plain_history, threads_from}
use Rattle.cal_run.proofs.PlainLemmas.{total}
use Rattle.cal_run.proofs.plain.note_threads.Given as goal

-- The process has taken in what the threads so far placed; the notes of the threads that are left
-- make all notes whole.
abbrev pub invariant-loop-number : goal.invariant-loop-number
invariant-loop-number l = record {
  process : HoldsPlaced l.script l.history l.process;
  count : l.process.count + total l.script (drop l.number l.script.threads)
      ≡ length (plain_history l.script);
  so_far : l.notes ++ threads_from l.script l.process.count (drop l.number l.script.threads)
      ≡ threads_from l.script 0 l.script.threads;
}
