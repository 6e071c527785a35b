-- The running threads of a run, before their first lines.
use Rattle.std.specs.Prelude.{◌≡◌, ℕ, List, length, Some, slice_get}
use Rattle.cal_keeping.specs.Hands.{IsAtBooks, account_in}
use Rattle.cal_keeping.specs.Runners.{IsHiredRunner}
use Rattle.cal_keeping.specs.declared.book_hand.BookHand.{BookHand}
use Rattle.cal_keeping.specs.declared.runner.Runner.{Runner}
use Rattle.cal_replay.specs.Workers.{script_of}
use Rattle.cal_start.specs.declared.run.Run.{Run}

-- The running thread of a number, which wasn't started; the numbers that its channels have, and the
-- books at its hand, are the run's.
pub record IsHiredFor {P : Type 0} (run : Run) (number : ℕ) (r : Runner P BookHand) : Type 0 where
  pub hired : IsHiredRunner account_in IsAtBooks run.shared r
  pub own : r.worker.thread.number ≡ number
  pub numbers : r.channels.numbers.now ≡ run.numbers
  pub books : r.channels.hand.books.now ≡ run.books.items

-- one for each thread of the script, in the order of their numbers
pub record AreHired {P : Type 0} (run : Run) (runners : List (Runner P BookHand)) : Type 0 where
  pub many : length runners ≡ length (script_of run.shared).threads
  pub each : (number : ℕ) (r : Runner P BookHand) → slice_get runners number ≡ Some r
      → IsHiredFor run number r
