use Rattle.std.proofs.Common.{◌≡◌, ◌<◌, length}
use Rattle.cal_context.specs.Tree.{Grows}
use Rattle.cal_value.specs.declared.kind.Kind.{Kind}
use Rattle.cal_filter.specs.Kept.{result_attribute}
use Rattle.cal_filter.specs.Results.{IsNumbered, number_for}
use Rattle.cal_filter.specs.Sought.{kind_place}
use Rattle.cal_filter.proofs.results.result_attributes.Given as goal

-- the attributes of the kinds before this one are there
abbrev pub invariant-loop-place : goal.invariant-loop-place
invariant-loop-place l = record {
  grows : Grows l.fn.context l.context;
  counted : length l.numbers ≡ 9;
  numbered : (k : Kind) → kind_place k < l.place
      → IsNumbered l.context (result_attribute l.name k) (number_for l.numbers k);
}
