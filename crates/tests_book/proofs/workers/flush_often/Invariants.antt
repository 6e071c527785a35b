use Rattle.std.proofs.Common.{◌≡◌, ◌+◌, ◌*◌}
use Rattle.tests_book.specs.Workers.{IsWorker}
use Rattle.tests_book.proofs.workers.flush_often.Given as goal

-- it is still the worker that it was, and each flush so far brought so many snapshots
abbrev pub invariant-loop-time : goal.invariant-loop-time
invariant-loop-time l = record {
  worker : (number : _) → IsWorker l.cell number l.fn.worker → IsWorker l.cell number l.worker;
  total : l.worker.given + l.worker.left ≡ l._time * l.count;
}
