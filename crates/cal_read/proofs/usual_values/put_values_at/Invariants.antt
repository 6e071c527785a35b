use Rattle.std.proofs.Common.{◌≤◌, length, take}
use Rattle.cal_read.specs.UsualValues.{ReadsEntries}
use Rattle.cal_read.proofs.usual_values.put_values_at.Given as goal

abbrev pub invariant-loop-index : goal.invariant-loop-index
invariant-loop-index l = record {
  filled : l.index ≤ length l.imms.items;
  read : ReadsEntries l.context l.nodes (take l.index l.ids) l.line l.start l.place (take l.index l.imms.items);
}
