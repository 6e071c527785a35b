use Rattle.std.proofs.Common.{◌≡◌, map}
use Rattle.cal_steps.proofs.groups.rows_of.Given as goal

-- the rows so far
abbrev pub invariant-loop-row : goal.invariant-loop-row
invariant-loop-row l = l.rows.items ≡ map (λ r. r.row) l.yielded
