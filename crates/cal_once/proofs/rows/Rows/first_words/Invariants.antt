use Rattle.std.proofs.Common.{◌≡◌, ◌+◌, ◌<◌, ℕ, length, slice_index}
use Rattle.cal_once.specs.Views.{Saw, Learns}
use Rattle.cal_once.specs.Sound.{IsSound}
use Rattle.cal_once.specs.Seats.{IsAt, plan_of}
use Rattle.cal_once.proofs.rows.Rows.first_words.Given as goal

-- the words so far are those of the record
abbrev pub invariant-loop-i : goal.invariant-loop-i
invariant-loop-i g l = record {
  at : IsAt l.self l.seat;
  hand : l.seat.me.1 ≡ l.initial.seat.me.1;
  known : (k : ℕ) → k < l.i → Saw l.seat.me.0.seen (l.start + k) (slice_index l.words k);
  long : length l.words ≡ length l.initial.words;
  learns : Learns l.initial.seat.me.0 l.seat.me.0;
  sound : IsSound g.S.RecSort (plan_of l.self) l.seat.me.0;
}
