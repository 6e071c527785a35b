use Rattle.std.proofs.Common.{◌≡◌, take}
use Rattle.std.specs.Prelude.{sum_by}
use Rattle.cal_call.specs.Refusals.{refused_of}
use Rattle.cal_call.proofs.counting.count_refused.Given as goal

-- the threads so far
abbrev pub invariant-loop-thread : goal.invariant-loop-thread
invariant-loop-thread l = l.refused ≡ sum_by refused_of (take l.thread-index l.journal.threads)
