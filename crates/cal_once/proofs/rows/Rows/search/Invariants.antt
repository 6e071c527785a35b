use Rattle.std.proofs.Common.{◌≡◌}
use Rattle.cal_once.specs.Puts.{PassesOthers, ask_for}
use Rattle.cal_once.specs.Seats.{IsAt, plan_of}
use Rattle.cal_once.specs.Views.{Learns}
use Rattle.cal_once.proofs.rows.Rows.search.Given as goal

-- the slots so far hold other records
abbrev pub invariant-loop-distance : goal.invariant-loop-distance
invariant-loop-distance g l = record {
  at : IsAt l.self l.seat;
  hand : l.seat.me.1 ≡ l.initial.seat.me.1;
  before : PassesOthers (ask_for g.S.RecSort (plan_of l.self) (g.P.Packed.words l.rec)) l.seat.me.0 l.distance;
  learns : Learns l.initial.seat.me.0 l.seat.me.0;
}
