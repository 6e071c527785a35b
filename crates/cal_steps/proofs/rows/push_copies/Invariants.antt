use Rattle.std.proofs.Common.{◌≡◌, ◌++◌, take}
use Rattle.cal_steps.proofs.rows.push_copies.Given as goal

-- those so far are added
abbrev pub invariant-loop-record : goal.invariant-loop-record
invariant-loop-record l = l.rows ≡ l.fn.rows ++ take l.record-index l.records
