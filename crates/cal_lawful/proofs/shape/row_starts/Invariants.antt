use Rattle.std.proofs.Common.{◌≡◌, ◌++◌, drop}
use Rattle.cal_lawful.specs.Broken.{starts_of}
use Rattle.cal_lawful.proofs.shape.row_starts.Given as goal

-- the rows so far, and those of the threads that are left, are all
abbrev pub invariant-loop-thread : goal.invariant-loop-thread
invariant-loop-thread l = l.starts.items ++ starts_of (drop l.thread l.notes) ≡ starts_of l.notes
