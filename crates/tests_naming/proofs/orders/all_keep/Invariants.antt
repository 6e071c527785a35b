use Rattle.std.proofs.Common.{◌≡◌}
use Rattle.cal_once.specs.Seats.{view}
use Rattle.cal_names.specs.Kept.{IsNameSeat}
use Rattle.tests_naming.proofs.orders.all_keep.Given as goal

abbrev pub invariant-loop-at : goal.invariant-loop-at
invariant-loop-at l = record {
  first : IsNameSeat l.names l.first;
  number : (view l.first).number ≡ (view l.initial.first).number;
  other : IsNameSeat l.names l.other;
}
