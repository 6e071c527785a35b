use Rattle.std.proofs.Common.{◌≡◌, ℕ, List, length}
use Rattle.cal_keys.specs.Takers.{AreTakers}
use Rattle.cal_keys.proofs.takers.Takers.catch_up.Given as goal

abbrev pub invariant-loop-place : goal.invariant-loop-place
invariant-loop-place l = record {
  counted : length l.self.known.items ≡ l.place;
  are : (names : List (List ℕ)) → AreTakers l.context names l.fn.self → AreTakers l.context names l.self;
}
