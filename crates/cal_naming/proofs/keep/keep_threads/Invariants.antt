use Rattle.cal_naming.proofs.Threads.{IsKeepingTo}
use Rattle.cal_naming.proofs.keep.keep_threads.Given as goal

-- the list has what is kept of the threads so far
abbrev pub invariant-loop-at : goal.invariant-loop-at
invariant-loop-at l = IsKeepingTo l.threads l.answers l.at l.kept l.marks
