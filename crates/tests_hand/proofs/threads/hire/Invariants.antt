use Rattle.std.proofs.Common.{◌≡◌, All, length, vec_len}
use Rattle.cal_once.specs.Seats.{view}
use Rattle.cal_tree.specs.Seats.{IsTreeSeat}
use Rattle.tests_hand.proofs.threads.hire.Given as goal

-- each worker so far has a seat of the tree
abbrev pub invariant-loop-number : goal.invariant-loop-number
invariant-loop-number l = record {
  seat : IsTreeSeat l.tree l.first;
  first : (view l.first).number ≡ 0;
  made : length (view l.first).others ≡ l._number;
  hired : vec_len l.workers ≡ l._number;
  seats : All (λ w. IsTreeSeat l.tree w.seat) l.workers.items;
}
