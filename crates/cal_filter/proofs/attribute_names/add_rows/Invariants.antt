use Rattle.std.proofs.Common.{◌+◌, ◌-◌, length}
use Rattle.cal_filter.specs.Memo.{HaveSameRows}
use Rattle.cal_filter.proofs.attribute_names.add_rows.Given as goal

-- the rows that were added are empty
abbrev pub invariant-loop-alloc : goal.invariant-loop-alloc
invariant-loop-alloc l = HaveSameRows l.fn.rows.items l.rows.items

abbrev pub decreases-loop-alloc : goal.decreases-loop-alloc
decreases-loop-alloc l = l.name + 1 - length l.rows.items
