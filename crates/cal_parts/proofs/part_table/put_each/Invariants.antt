use Rattle.std.proofs.Common.{◌≡◌, ◌++◌, take}
use Rattle.cal_parts.proofs.part_table.put_each.Given as goal

abbrev pub invariant-loop-part : goal.invariant-loop-part
invariant-loop-part l = l.list ≡ l.fn.list ++ take l.part-index l.parts
