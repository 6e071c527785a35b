use Rattle.std.proofs.Common.{◌≡◌, All, vec_len}
use Rattle.cal_once.specs.Seats.{view}
use Rattle.cal_tree.specs.Seats.{IsTreeSeat}
use Rattle.tests_hand.proofs.threads.dismiss.Given as goal

-- each worker that is left has a seat of the tree
abbrev pub invariant-loop-worker : goal.invariant-loop-worker
invariant-loop-worker l = record {
  seat : IsTreeSeat l.tree l.first;
  first : (view l.first).number ≡ 0;
  seats : All (λ w. IsTreeSeat l.tree w.seat) l.workers.items;
}

abbrev pub decreases-loop-worker : goal.decreases-loop-worker
decreases-loop-worker l = vec_len l.workers
