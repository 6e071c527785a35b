use Rattle.std.proofs.Common.{◌≡◌, ◌++◌, ◌+◌, drop}
use Rattle.cal_lawful.specs.Broken.{line_rows}
use Rattle.cal_lawful.proofs.shape.push_line_rows.Given as goal

-- the rows so far, and those of the lines that are left, are all
abbrev pub invariant-loop-place : goal.invariant-loop-place
invariant-loop-place l =
    l.rows.items ++ line_rows l.thread (l.place + 1)
    (drop l.place l.lines) ≡ l.fn.rows.items ++ line_rows l.thread 1 l.lines
