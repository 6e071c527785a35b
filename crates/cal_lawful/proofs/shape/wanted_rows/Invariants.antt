use Rattle.std.proofs.Common.{◌≡◌, ◌++◌, drop}
use Rattle.cal_lawful.specs.Broken.{rows_from, wanted_rows}
use Rattle.cal_lawful.proofs.shape.wanted_rows.Given as goal

-- the rows so far, and those of the threads that are left, are all
abbrev pub invariant-loop-thread : goal.invariant-loop-thread
invariant-loop-thread l = l.rows.items ++ rows_from l.thread
    (drop l.thread l.script.threads) ≡ wanted_rows l.script
