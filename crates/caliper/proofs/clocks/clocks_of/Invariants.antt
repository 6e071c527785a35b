use Rattle.std.proofs.Common.{◌≡◌, length}
use Rattle.caliper.proofs.clocks.clocks_of.Given as goal

-- one for each thread so far
abbrev pub invariant-loop-thread : goal.invariant-loop-thread
invariant-loop-thread g l = length l.clocks.items ≡ l._thread
