use Rattle.std.proofs.Common.{◌≡◌, map, take}
use Rattle.cal_table.specs.Tables.{empty_table}
use Rattle.cal_collect.proofs.open.empty_tables.Given as goal

-- there is an empty table of each shape so far
abbrev pub invariant-loop-shape : goal.invariant-loop-shape
invariant-loop-shape l = l.tables.items ≡ map empty_table (take l.shape-index l.shapes)
