use Rattle.std.proofs.Common.{◌≡◌, take}
use Rattle.cal_parts.proofs.part_table.PartTable.of.Given as goal

abbrev pub invariant-loop-parts : goal.invariant-loop-parts
invariant-loop-parts l = l.table ≡ take l.parts-index l.groups
