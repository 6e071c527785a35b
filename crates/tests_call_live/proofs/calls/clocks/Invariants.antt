use Rattle.std.proofs.Common.{◌≡◌, length}
use Rattle.tests_call_live.proofs.calls.clocks.Given as goal

-- one for each thread so far
abbrev pub invariant-loop-thread : goal.invariant-loop-thread
invariant-loop-thread l = length l.clocks.items ≡ l._thread
