use Rattle.std.proofs.Common.{List, [], sym, ap, ◌∙◌}
use Rattle.std.specs.BTreeMap.{is_at}
use Rattle.std.specs.List.{list_any}
use Rattle.std.proofs.lemmas.List.{take_all}
use Rattle.cal_value.specs.Texts.{text_cmp}
use Rattle.cal_profile.specs.Groups.{aggs_of, value_aggs}
use Rattle.cal_ql.specs.Once.{has_name, with_all_new}
use Rattle.cal_ql.specs.declared.query.Agg.{Agg}
use Rattle.cal_records.proofs.QueryLemmas.{results-all, results-more}
use Rattle.cal_records.proofs.query.kept_aggs.Goals as goal

pub add-requires-clause-named : goal.add-requires-clause-named
add-requires-clause-named c = λ name.
    ap (list_any (is_at (text_cmp name))) c.new.ensures.empty
    ∙ sym (ap (λ (aggs : List Agg). has_name aggs name) c.new-2.ensures)

pub loop-value-preserved : goal.loop-value-preserved
loop-value-preserved c =
    let old = c.loop-value.invariant in
    let next = c.in_ok-add_results.ensures in
    record {
      named = next.named;
      kept = next.added
          ∙ (λ j. with_all_new (old.kept j) (value_aggs (c.as_str.ensures j)))
          ∙ sym (results-more c.args.values.now c.loop-value.value-index c.value-item.result
          c.loop-value-test.true c.value-item.is);
    }

pub returns : goal.returns
returns c =
    c.loop-value.invariant.kept
    ∙ ap (λ vs. with_all_new [] (aggs_of vs))
    (take_all c.loop-value.value-index c.args.values.now c.loop-value-test.false)
    ∙ results-all c.args.values.now
