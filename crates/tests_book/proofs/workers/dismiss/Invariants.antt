use Rattle.std.proofs.Common.{◌≡◌, None, IsSome, All, drop, length, vec_len}
use Rattle.cal_book.specs.Seats.{IsSeatOf, view}
use Rattle.tests_book.specs.Workers.{AreWorkers}
use Rattle.tests_book.proofs.workers.dismiss.Given as goal

-- the workers behind those that are left were joined
abbrev pub invariant-loop-worker : goal.invariant-loop-worker
invariant-loop-worker l = record {
  seat : IsSeatOf l.cell l.first;
  first : (view l.first).thread ≡ None;
  workers : AreWorkers l.cell l.workers.items;
  joined : All IsSome (drop (length l.workers.items) (view l.first).others);
}

abbrev pub decreases-loop-worker : goal.decreases-loop-worker
decreases-loop-worker l = vec_len l.workers
