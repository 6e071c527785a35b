use Rattle.std.proofs.Common.{◌≡◌, ◌≤◌, length, take}
use Rattle.cal_read.proofs.spare.cut_to.Given as goal

abbrev pub invariant-rest : goal.invariant-rest
invariant-rest l = record {
  enough : l.count ≤ length l.imms.items;
  front : take l.count l.imms.items ≡ take l.count l.initial.imms.items;
}

abbrev pub decreases-rest : goal.decreases-rest
decreases-rest l = length l.imms.items
