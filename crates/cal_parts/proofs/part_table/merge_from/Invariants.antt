use Rattle.std.proofs.Common.{◌≡◌, length, take}
use Rattle.cal_parts.specs.PartLists.{merged_from}
use Rattle.cal_parts.proofs.part_table.merge_from.Given as goal

-- those before this place are taken in, and the others are as they were
abbrev pub invariant-loop-place : goal.invariant-loop-place
invariant-loop-place l = record {
  long : length l.list ≡ length l.fn.list;
  merged : l.list ≡ merged_from l.fn.list l.from (take l.place l.parts);
}
