use Rattle.std.proofs.Common.{◌≡◌, All, vec_len}
use Rattle.cal_once.specs.Seats.{view}
use Rattle.cal_names.specs.Kept.{IsNameSeat}
use Rattle.tests_naming.proofs.threads.dismiss.Given as goal

-- each worker that is left has a seat of the table
abbrev pub invariant-loop-worker : goal.invariant-loop-worker
invariant-loop-worker l = record {
  seat : IsNameSeat l.names l.first;
  first : (view l.first).number ≡ 0;
  seats : All (λ w. IsNameSeat l.names w.seat) l.workers.items;
}

abbrev pub decreases-loop-worker : goal.decreases-loop-worker
decreases-loop-worker l = vec_len l.workers
