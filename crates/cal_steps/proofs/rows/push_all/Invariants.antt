use Rattle.std.proofs.Common.{◌≡◌, ◌++◌}
use Rattle.cal_steps.proofs.rows.push_all.Given as goal

-- those so far are added
abbrev pub invariant-loop-record : goal.invariant-loop-record
invariant-loop-record l = l.rows ≡ l.fn.rows ++ l.yielded
