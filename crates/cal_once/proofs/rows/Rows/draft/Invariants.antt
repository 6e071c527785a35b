use Rattle.std.proofs.Common.{◌≡◌, ◌<◌, take}
use Rattle.cal_once.specs.Seats.{IsAt}
use Rattle.cal_once.proofs.rows.Rows.draft.Given as goal

-- the words so far are the draft
abbrev pub invariant-loop-k : goal.invariant-loop-k
invariant-loop-k g l = record {
  at : IsAt l.self l.seat;
  hand : l.seat.me.1 ≡ l.initial.seat.me.1;
  same : l.seat.me.0 ≡ record l.initial.seat.me.0 { draft = l.seat.me.0.draft };
  words : 0 < l.k → l.seat.me.0.draft ≡ take l.k (g.P.Packed.words l.rec);
}
