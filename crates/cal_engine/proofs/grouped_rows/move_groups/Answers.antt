use Rattle.std.proofs.Common.{List, subst}
use Rattle.std.specs.List.{AllZip}
use Rattle.cal_context.proofs.CallerLemmas.{Grows-trans}
use Rattle.cal_context.specs.Tree.{Tree}
use Rattle.cal_ql.specs.declared.query.Agg.{Agg}
use Rattle.cal_engine.specs.Making.{AreOthers, below_of}
use Rattle.cal_engine.specs.Numbered.{AreGroups}
use Rattle.cal_engine.specs.Results.{IsResultOf}
use Rattle.cal_engine.proofs.ResultNumbers.{results-Grows}
use Rattle.cal_engine.proofs.grouped_rows.move_groups.Goals as goal

pub returns-in_err-put-clause-grows : goal.returns-in_err-put-clause-grows
returns-in_err-put-clause-grows c =
    Grows-trans _ _ _ c.in_ok-results.ensures.grows c.put.ensures.grows

pub returns-clause-results : goal.returns-clause-results
returns-clause-results c =
    results-Grows c.put.ensures.grows c.args.query.now.aggs c.in_ok-results.field-0.items
    (subst (λ (aggs : List Agg). AllZip (IsResultOf c.result_attributes.new.context) aggs c.in_ok-results.field-0.items)
    c.as_slice.ensures c.in_ok-results.ensures.results)

pub returns-clause-others : goal.returns-clause-others
returns-clause-others c = λ rs.
    let q = c.args.query.now in
    let groups = c.args.groups.now in
    let others = c.in_ok-others.others in
    subst (λ (t : Tree). AreGroups t q rs groups
    → AreOthers t q rs groups others.all (below_of others groups.parts))
    c.from.ensures (c.in_ok-others.ensures rs)

pub returns-clause-grows : goal.returns-clause-grows
returns-clause-grows c = Grows-trans _ _ _ c.in_ok-results.ensures.grows c.put.ensures.grows
