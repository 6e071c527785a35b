use Rattle.std.proofs.Common.{take}
use Rattle.std.specs.List.{AllZip}
use Rattle.cal_groups.specs.Columns.{Finds}
use Rattle.cal_groups.proofs.columns.seekers_of.Given as goal

-- the seekers of the attributes so far
abbrev pub invariant-loop-value : goal.invariant-loop-value
invariant-loop-value l = AllZip (Finds l.context) (take l.value-index l.values) l.seekers.items
