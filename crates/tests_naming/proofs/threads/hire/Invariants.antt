use Rattle.std.proofs.Common.{◌≡◌, All, length, vec_len}
use Rattle.cal_once.specs.Seats.{view}
use Rattle.cal_names.specs.Kept.{IsNameSeat}
use Rattle.tests_naming.proofs.threads.hire.Given as goal

-- each worker so far has a seat of the table
abbrev pub invariant-loop-number : goal.invariant-loop-number
invariant-loop-number l = record {
  seat : IsNameSeat l.names l.first;
  first : (view l.first).number ≡ 0;
  made : length (view l.first).others ≡ l._number;
  hired : vec_len l.workers ≡ l._number;
  seats : All (λ w. IsNameSeat l.names w.seat) l.workers.items;
}
