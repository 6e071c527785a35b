use Rattle.std.proofs.Common.{List, subst}
use Rattle.std.proofs.lemmas.Result.{IfOk-weaker}
use Rattle.std.specs.List.{AllZip}
use Rattle.cal_ql.specs.declared.query.Agg.{Agg}
use Rattle.cal_engine.specs.Results.{IsResultOf}
use Rattle.cal_engine.proofs.Making.{groups-Grows}
use Rattle.cal_engine.proofs.grouped_rows.GroupedRows.new.Goals as goal

pub with_results-requires : goal.with_results-requires
with_results-requires c =
    subst (λ (aggs : List Agg). AllZip (IsResultOf c.result_attributes.new.context) aggs c.in_ok-results.results.items)
    c.as_slice.ensures c.in_ok-results.ensures.results

pub returns-clause-rows : goal.returns-clause-rows
returns-clause-rows c = IfOk-weaker c.with_results.result _ _
    (λ made over. λ rs old.
    over rs (groups-Grows c.in_ok-results.ensures.grows c.args.query.now rs c.args.groups old))
    c.with_results.ensures
