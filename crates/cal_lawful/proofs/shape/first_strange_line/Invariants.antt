use Rattle.std.proofs.Common.{◌≡◌, take}
use Rattle.cal_lawful.specs.Broken.{written_from}
use Rattle.cal_lawful.proofs.shape.first_strange_line.Given as goal

-- the rows so far are those that are wanted
abbrev pub invariant-loop-row : goal.invariant-loop-row
invariant-loop-row l = take l.row (written_from l.text 0 l.starts) ≡ take l.row l.wanted
