use Rattle.std.proofs.Common.{◌≡◌, ◌++◌}
use Rattle.cal_tabfmt.specs.Grid.{spaces}
use Rattle.cal_tabfmt.proofs.ends.append_spaces.Given as goal

-- the spaces so far, and those that are left
abbrev pub invariant-loop-left : goal.invariant-loop-left
invariant-loop-left l = l.out ++ spaces l.left ≡ l.fn.out ++ spaces l.count

abbrev pub decreases-loop-left : goal.decreases-loop-left
decreases-loop-left l = l.left
