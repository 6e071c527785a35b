use Rattle.std.specs.Prelude.{◌≡◌, ℕ, ◌<◌, Some, List, length, slice_index_or, sum_by}
use Rattle.cal_book.specs.declared.cell.FlushCell.{FlushCell}
use Rattle.cal_book.specs.Seats.{IsSeatOf, view}
use Rattle.tests_book.specs.declared.tally.Tally.{Tally}
use Rattle.tests_book.specs.declared.worker.Worker.{Worker}

-- the worker has the seat of the thread of a number, and knows how much that has given
pub record IsWorker (cell : FlushCell Tally ℕ) (number : ℕ) (worker : Worker) : Type 0 where
  pub seat : IsSeatOf cell worker.seat
  pub thread : (view worker.seat).thread ≡ Some number
  pub given : sum_by (λ part. part.count) (view worker.seat).account.given ≡ worker.given

-- the workers, in the order of their threads
abbrev pub AreWorkers : FlushCell Tally ℕ → List Worker → Type 0
AreWorkers cell workers = (k : ℕ) (d : Worker) → k < length workers
    → IsWorker cell k (slice_index_or workers k d)
