use Rattle.std.proofs.Common.{Some, sym, ap, ◌∙◌}
use Rattle.std.specs.Prelude.{option_map}
use Rattle.std.specs.Option.{option_copied}
use Rattle.cal_filter.specs.Kept.{result_entry}
use Rattle.cal_filter.specs.Numbers.{value_of_number}
use Rattle.cal_engine.proofs.ResultNumbers.{result_found}
use Rattle.cal_engine.proofs.kernel_results.result_at.Goals as goal

pub returns-in-Some : goal.returns-in-Some
returns-in-Some c = λ t agg lists is own all below.
    let value = result_found agg lists c.args.attributes.now.kernel (option_copied c.args.own) (option_copied c.args.all) (option_copied c.args.below) c.value_at.result
    is.kernel own all below c.value_at.ensures in
    ap Some (c.immediate.ensures t agg is) ∙ ap (option_map (λ n. result_entry agg.name (value_of_number n))) (sym c.in-Some.is ∙ value)

pub returns-in-None : goal.returns-in-None
returns-in-None c = λ t agg lists is own all below.
    let value = result_found agg lists c.args.attributes.now.kernel (option_copied c.args.own) (option_copied c.args.all) (option_copied c.args.below) c.value_at.result
    is.kernel own all below c.value_at.ensures in
    ap (option_map (λ n. result_entry agg.name (value_of_number n))) (sym c.in-None.is ∙ value)
