use Rattle.std.proofs.Common.{take, List, []}
use Rattle.std.specs.Prelude.{slice_index_or}
use Rattle.std.specs.List.{AllZip}
use Rattle.cal_context.specs.Tree.{Tree}
use Rattle.cal_ql.specs.declared.query.Agg.{Agg}
use Rattle.cal_engine.specs.Finishing.{AreKept, Lists, entries_of_results}
use Rattle.cal_engine.specs.Making.{below_of}
use Rattle.cal_engine.specs.Results.{AddsResults, IsResultOf}
use Rattle.cal_engine.proofs.kernel_results.add_result_immediates.Given as goal

-- the results of the kernels so far
abbrev pub invariant-loop-place : goal.invariant-loop-place
invariant-loop-place l = (t : Tree) (aggs : List Agg) (lists : Lists)
    → AllZip (IsResultOf t) aggs l.results → AreKept aggs lists (slice_index_or l.groups.parts l.number []) l.others.all
    (slice_index_or (below_of l.others l.groups.parts) l.number [])
    → AddsResults t (entries_of_results (take l.place aggs) lists) l.initial.imms.items l.imms.items
