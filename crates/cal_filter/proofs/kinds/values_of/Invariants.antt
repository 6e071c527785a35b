use Rattle.std.proofs.Common.{◌≡◌, take, map}
use Rattle.cal_value.specs.Kinds.{every_kind}
use Rattle.cal_value.specs.Reading.{value_of}
use Rattle.cal_filter.proofs.kinds.values_of.Given as goal

-- the values of the kinds before this one
abbrev pub invariant-loop-kind : goal.invariant-loop-kind
invariant-loop-kind l = l.values.items ≡ map (λ k. value_of k l.text) (take l.kind-index every_kind)
