use Rattle.std.proofs.Common.{◌≡◌, ◌++◌, drop, map, take}
use Rattle.cal_channel.specs.Places.{at_place, lists_of}
use Rattle.cal_handover.proofs.places.seats_at.Given as goal

-- the seats of the threads so far are taken out
abbrev pub invariant-loop-own : goal.invariant-loop-own
invariant-loop-own l = record {
  taken : l.taken.items ≡ at_place l.place (take l.own-index (lists_of l.fn.seats));
  left : lists_of l.seats ≡ map (take l.place) (take l.own-index (lists_of l.fn.seats))
      ++ drop l.own-index (lists_of l.fn.seats);
}
