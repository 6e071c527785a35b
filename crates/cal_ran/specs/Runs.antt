-- A run whose threads have run all their lines.
use Rattle.std.specs.Prelude.{◌≡◌, ℕ, List, length, Some, slice_get}
use Rattle.cal_finish.specs.Ended.{HasRun}
use Rattle.cal_handover.specs.Handing.{IsHandedOver}
use Rattle.cal_handover.specs.declared.handed.Handed.{Handed}
use Rattle.cal_keeping.specs.Hands.{IsAtBooks, account_in}
use Rattle.cal_keeping.specs.declared.book_hand.BookHand.{BookHand}
use Rattle.cal_keeping.specs.declared.runner.Runner.{Runner}
use Rattle.cal_replay.specs.Workers.{script_of}
use Rattle.cal_start.specs.declared.run.Run.{Run}

-- The thread of a number has run all its lines, with the run's numbers and books.
pub record IsDone {P : Type 0} (run : Run) (number : ℕ) (r : Runner P BookHand) : Type 0 where
  pub ran : HasRun account_in IsAtBooks run.shared number r
  pub numbers : r.channels.numbers.now ≡ run.numbers
  pub books : r.channels.hand.books.now ≡ run.books.items

-- one for each thread of the script, in the order of their numbers
pub record AreDone {P : Type 0} (run : Run) (runners : List (Runner P BookHand)) : Type 0 where
  pub many : length runners ≡ length (script_of run.shared).threads
  pub each : (number : ℕ) (r : Runner P BookHand) → slice_get runners number ≡ Some r
      → IsDone run number r

-- what such threads have handed over
pub record AreHandedOf (P : Type 0) (run : Run) (handed : Handed) : Type 0 where
  pub from : List (Runner P BookHand)
  pub done : AreDone run from
  pub parts : IsHandedOver from handed
