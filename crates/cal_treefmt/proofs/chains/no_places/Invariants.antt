use Rattle.std.proofs.Common.{◌≡◌, ℕ, length, get_or, None}
use Rattle.cal_treefmt.proofs.chains.no_places.Given as goal

abbrev pub invariant-loop-place : goal.invariant-loop-place
invariant-loop-place l = record {
  counted : length l.places.items ≡ l._place;
  none : (k : ℕ) → get_or l.places.items k None ≡ None;
}
