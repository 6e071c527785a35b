use Rattle.std.proofs.Common.{◌≡◌, ◌+◌, ◌++◌, List, drop, map}
use Rattle.std.specs.Prelude.{zip}
use Rattle.cal_lawful.specs.Broken.{Row}
use Rattle.cal_lawful.specs.Broken.{Noted}
use Rattle.cal_lawful.specs.Checking.{SeenTell}
use Rattle.cal_run.specs.Lawful.{noted_from}
use Rattle.cal_run.specs.Steps.{ThreadState, at_start}
use Rattle.cal_lawful.proofs.seen.test_thread.Given as goal

-- The rows so far, of which the tests tell, and those of the lines that are left, are all.
abbrev pub invariant-loop-place : goal.invariant-loop-place
invariant-loop-place l = record {
  so_far : (rows : List Row) × (state : ThreadState)
      × (rows ++ map Noted (noted_from l.script l.journal.ops l.thread (l.place + 1) l.before state
      (drop l.place (zip l.lines l.notes)))
      ≡ map Noted (noted_from l.script l.journal.ops l.thread 1 0 at_start (zip l.lines l.notes)))
      × ((front : List Row) → SeenTell l.script l.journal l.fn.tests front
      → SeenTell l.script l.journal l.tests (front ++ rows));
  row : l.tests.row ≡ l.fn.tests.row + l.place;
}
