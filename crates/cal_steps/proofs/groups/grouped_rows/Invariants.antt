use Rattle.std.proofs.Common.{◌≡◌, map}
use Rattle.cal_steps.proofs.groups.grouped_rows.Given as goal
use Rattle.cal_steps.specs.Grouping.{beside}

-- the rows so far, each beside its group
abbrev pub invariant-loop-row : goal.invariant-loop-row
invariant-loop-row l = l.grouped.items ≡ map (beside l.aggs) l.yielded
