use Rattle.std.proofs.Common.{◌≡◌, replicate}
use Rattle.cal_lawful.proofs.order.no_counts.Given as goal

-- a zero for each thread so far
abbrev pub invariant-loop-thread : goal.invariant-loop-thread
invariant-loop-thread l = l.counts.items ≡ replicate l._thread 0
