use Rattle.std.proofs.Common.{◌≡◌, None, vec_len}
use Rattle.cal_book.specs.Seats.{IsSeatOf, view}
use Rattle.cal_closing.proofs.Joins.{IsTold}
use Rattle.cal_closing.proofs.book.join_seats.Given as goal

-- the first seat was told of those behind the ones that are left
abbrev pub invariant-loop-seat : goal.invariant-loop-seat
invariant-loop-seat l = record {
  seat : IsSeatOf l.book l.first;
  first : (view l.first).thread ≡ None;
  told : IsTold l.fn.seats.items l.seats.items (view l.first);
}

abbrev pub decreases-loop-seat : goal.decreases-loop-seat
decreases-loop-seat l = vec_len l.seats
