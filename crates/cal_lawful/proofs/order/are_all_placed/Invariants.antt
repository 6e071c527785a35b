use Rattle.std.proofs.Common.{Vec, Global, ℕ, ◌<◌, ◌≤◌, length}
use Rattle.std.specs.Prelude.{slice_index_or}
use Rattle.cal_lawful.proofs.order.are_all_placed.Given as goal

-- no thread so far lacks an operation
abbrev pub invariant-loop-thread : goal.invariant-loop-thread
invariant-loop-thread l = (k : ℕ) (d : Vec ℕ Global) → k < l.thread
    → length (slice_index_or l.lists k d).items ≤ slice_index_or l.counts k 0
