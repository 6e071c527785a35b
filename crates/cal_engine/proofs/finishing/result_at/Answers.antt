use Rattle.std.proofs.Common.{Some, sym, ap, ◌∙◌}
use Rattle.std.specs.Prelude.{option_map}
use Rattle.cal_filter.specs.Kept.{result_entry}
use Rattle.cal_filter.specs.Numbers.{value_of_number}
use Rattle.cal_parts.specs.Kernels.{contributed}
use Rattle.cal_engine.proofs.Results.{takes_whole}
use Rattle.cal_engine.proofs.finishing.result_at.Goals as goal

pub returns-in_ok-result_entry-in-Some : goal.returns-in_ok-result_entry-in-Some
returns-in_ok-result_entry-in-Some c = λ lists own all below.
    let agg = c.args.agg.now in
    let value = sym c.in-Some.is ∙ c.value_at.ensures (contributed agg lists.own) (contributed agg lists.all) (contributed agg lists.below) own all below (takes_whole agg lists.own) in
    ap Some c.in_ok-result_entry-in-Some.ensures ∙ ap (option_map (λ n. result_entry agg.name (value_of_number n))) value

pub returns-in-None : goal.returns-in-None
returns-in-None c = λ lists own all below.
    let agg = c.args.agg.now in
    let value = sym c.in-None.is ∙ c.value_at.ensures (contributed agg lists.own) (contributed agg lists.all) (contributed agg lists.below) own all below (takes_whole agg lists.own) in
    ap (option_map (λ n. result_entry agg.name (value_of_number n))) value
