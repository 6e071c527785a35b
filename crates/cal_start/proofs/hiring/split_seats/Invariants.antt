use Rattle.std.proofs.Common.{◌+◌}
use Rattle.cal_start.proofs.PlacedSeats.{AreMade, AreSplit}
use Rattle.cal_start.specs.FirstSeats.{IsFirstSeat, IsNewSeat}
use Rattle.cal_start.proofs.hiring.split_seats.Given as goal

-- at the books before this place the seats are split
abbrev pub invariant-loop-place : goal.invariant-loop-place
invariant-loop-place l = record {
  new : AreMade (IsNewSeat l._number) l.books l.seats.items l.place;
  first : AreSplit (IsFirstSeat (l._number + 1)) (IsFirstSeat l._number) l.books l.first l.place;
}
