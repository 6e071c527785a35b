use Rattle.std.proofs.Common.{◌≡◌, take}
use Rattle.cal_context.specs.Tree.{Grows}
use Rattle.cal_run.proofs.numbers.place_attributes.Given as goal

-- the attributes so far have their places as their numbers
abbrev pub invariant-loop-attribute : goal.invariant-loop-attribute
invariant-loop-attribute l = record {
  placed : l.context.attributes ≡ take l.attribute-index l.attributes;
  grows : Grows l.fn.context l.context;
}
