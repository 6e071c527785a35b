use Rattle.std.proofs.Common.{◌≡◌, ◌+◌, None, All, length}
use Rattle.cal_book.specs.Seats.{IsSeatOf, view}
use Rattle.tests_book.specs.Workers.{AreWorkers}
use Rattle.tests_book.proofs.workers.hire.Given as goal

-- there is a worker for each thread so far
abbrev pub invariant-loop-number : goal.invariant-loop-number
invariant-loop-number l = record {
  seat : IsSeatOf l.cell l.first;
  first : (view l.first).thread ≡ None;
  others : length (view l.first).others ≡ l._number;
  long : length l.workers.items ≡ l._number;
  workers : AreWorkers l.cell l.workers.items;
  none : All (λ worker. worker.given + worker.left ≡ 0) l.workers.items;
}
