use Rattle.std.proofs.Common.{◌≡◌, take}
use Rattle.cal_parts.proofs.part_list.all_wide.Given as goal

abbrev pub invariant-loop-part : goal.invariant-loop-part
invariant-loop-part l = l.wide.items ≡ take l.part-index l.parts
