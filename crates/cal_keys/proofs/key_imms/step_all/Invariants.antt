use Rattle.std.proofs.Common.{map, take}
use Rattle.cal_context.specs.Tree.{Grows}
use Rattle.cal_keys.specs.TakenImms.{taken_entry}
use Rattle.cal_keys.specs.Leading.{Leads}
use Rattle.cal_keys.proofs.key_imms.step_all.Given as goal

abbrev pub invariant-loop-one : goal.invariant-loop-one
invariant-loop-one l = record {
  grows : Grows l.fn.own l.own;
  leads : Leads l.own (map (taken_entry l.context) (take l.one-index l.taken)) l.node;
}
