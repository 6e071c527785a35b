use Rattle.std.proofs.Common.{◌≡◌, take}
use Rattle.cal_call_names.specs.Listing.{refused_lines}
use Rattle.cal_call_names.proofs.counting.count_refused.Given as goal

-- the threads so far
abbrev pub invariant-loop-thread : goal.invariant-loop-thread
invariant-loop-thread l = l.refused ≡ refused_lines (take l.thread-index l.replies)
