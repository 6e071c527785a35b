use Rattle.std.proofs.Common.{◌≡◌, ◌<◌, ◌≤◌}
use Rattle.cal_once.specs.Layout.{times}
use Rattle.cal_once.specs.Views.{AllJoined, Learns, all_published, known_count}
use Rattle.cal_once.specs.Sound.{IsSound}
use Rattle.cal_once.specs.Seats.{IsAt, plan_of}
use Rattle.cal_once.proofs.Counts.{sum_below}
use Rattle.cal_once.proofs.rows.Rows.count.Given as goal

-- the slots so far are counted, and where all seats were joined each published place among them
abbrev pub invariant-loop-place : goal.invariant-loop-place
invariant-loop-place g l = record {
  at : IsAt l.self l.seat;
  hand : l.seat.me.1 ≡ l.initial.seat.me.1;
  learns : Learns l.initial.seat.me.0 l.seat.me.0;
  sound : 0 < l.place → IsSound g.S.RecSort (plan_of l.self) l.seat.me.0;
  few : l.count ≤ l.place;
  known : l.count ≡ known_count l.seat.me.0 l.place;
  all : AllJoined l.seat.me.0 → l.count ≡ sum_below (λ p. times p (all_published l.seat.me.0)) l.place;
}
