use Rattle.std.proofs.Common.{◌≡◌, ◌≤◌, length, take}
use Rattle.cal_engine.proofs.gate.shorten.Given as goal

abbrev pub invariant-loop-imms : goal.invariant-loop-imms
invariant-loop-imms l = record {
  front : take l.count l.imms.items ≡ take l.count l.initial.imms.items;
  long : l.count ≤ length l.imms.items;
}

abbrev pub decreases-loop-imms : goal.decreases-loop-imms
decreases-loop-imms l = length l.imms.items
