use Rattle.std.proofs.Common.{◌≡◌, Some, slice_get, take}
use Rattle.std.specs.List.{AllZip}
use Rattle.cal_context.specs.Lists.{IsFront}
use Rattle.cal_filter.proofs.latest.number_names.Given as goal

-- the names before this one have their numbers
abbrev pub invariant-loop-name : goal.invariant-loop-name
invariant-loop-name l = record {
  front : IsFront l.fn.names.keys l.names.keys;
  numbers : AllZip (λ name n. slice_get l.names.keys n ≡ Some name) (take l.name-index l.args)
      l.numbers.items;
}
