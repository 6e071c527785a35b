use Rattle.std.proofs.Common.{◌≡◌, take}
use Rattle.cal_context.specs.Tree.{Grows}
use Rattle.cal_run.specs.Numbers.{ValuesStand}
use Rattle.cal_run.proofs.numbers.number_kept.Given as goal

-- the values so far have their numbers
abbrev pub invariant-loop-value : goal.invariant-loop-value
invariant-loop-value l = record {
  numbered : ValuesStand l.context l.numbers.items (take l.value-index l.values);
  attributes : l.context.attributes ≡ l.fn.context.attributes;
  grows : Grows l.fn.context l.context;
}
