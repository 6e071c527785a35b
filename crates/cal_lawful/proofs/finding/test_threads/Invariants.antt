use Rattle.std.proofs.Common.{◌≡◌, ℕ, ◌+◌, ◌≤◌, ◌++◌, List, drop, length}
use Rattle.std.specs.Prelude.{zip, flat_map, sum_by}
use Rattle.std.specs.List.{enumerate_from}
use Rattle.cal_context.specs.Tree.{Grows}
use Rattle.cal_lawful.specs.Broken.{Row, all_rows, thread_rows}
use Rattle.cal_lawful.specs.Checking.{FoundTell}
use Rattle.cal_run.specs.Numbers.{AreNumbered}
use Rattle.cal_lawful.proofs.finding.test_threads.Given as goal

-- The rows so far, of which the tests tell, and those of the threads that are left, are all.
abbrev pub invariant-loop-thread : goal.invariant-loop-thread
invariant-loop-thread l = record {
  numbered : AreNumbered l.context l.script l.numbers;
  so_far : (rows : List Row)
      × (rows ++ flat_map (thread_rows l.script l.journal)
      (enumerate_from l.thread (drop l.thread (zip l.script.threads l.journal.threads)))
      ≡ all_rows l.script l.journal)
      × FoundTell l.script l.journal l.tests rows;
  room : l.tests.row + sum_by length (drop l.thread l.script.threads)
      + length (drop l.thread l.script.threads) ≤ 2000000;
}
