use Rattle.cal_once.specs.Seats.{view}
use Rattle.cal_once.specs.Views.{Learns}
use Rattle.cal_names.specs.Kept.{IsNameSeat, PassesOtherNames, plan_of}
use Rattle.cal_names.proofs.names.Names.walk.Given as goal

-- the slots so far hold declarations of other names
abbrev pub invariant-loop-distance : goal.invariant-loop-distance
invariant-loop-distance l = record {
  seat : IsNameSeat l.self l.seat;
  learns : Learns (view l.initial.seat) (view l.seat);
  passed : PassesOtherNames (plan_of l.self) (view l.seat) l.rec.name.now l.distance;
}
