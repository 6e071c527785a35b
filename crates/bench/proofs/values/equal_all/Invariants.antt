use Rattle.std.proofs.Common.{◌≡◌, ◌≤◌}
use Rattle.bench.proofs.values.equal_all.Given as goal

-- no round counts twice, and each counts where the values are the same
abbrev pub invariant-loop-round : goal.invariant-loop-round
invariant-loop-round l = record {
  most : l.same ≤ l.round;
  all : l.one ≡ l.other → l.same ≡ l.round;
}
