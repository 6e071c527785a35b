use Rattle.std.proofs.Common.{take}
use Rattle.std.specs.List.{AllZip}
use Rattle.cal_context.specs.Tree.{Grows}
use Rattle.cal_engine.specs.Results.{IsResultOf}
use Rattle.cal_engine.proofs.kernel_results.result_attributes.Given as goal

-- the attributes of the kernels so far
abbrev pub invariant-loop-agg : goal.invariant-loop-agg
invariant-loop-agg l = record {
  grows : Grows l.fn.context l.context;
  are : AllZip (IsResultOf l.context) (take l.agg-index l.aggs) l.results.items;
}
