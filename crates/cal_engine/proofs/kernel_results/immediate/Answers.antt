use Rattle.std.proofs.Common.{sym, ap, ◌∙◌}
use Rattle.cal_filter.specs.Kept.{result_attribute}
use Rattle.cal_filter.specs.Numbers.{value_of_number}
use Rattle.cal_value.specs.Values.{kind_of}
use Rattle.cal_engine.proofs.ResultNumbers.{entry_by}
use Rattle.cal_engine.proofs.kernel_results.immediate.Goals as goal

pub returns-in-Whole : goal.returns-in-Whole
returns-in-Whole c = λ t agg is.
    entry_by agg.name _ c.args.number c.value_of_number.result
    (is.whole.is ∙ ap (λ n. result_attribute agg.name (kind_of (value_of_number n))) (sym c.in-Whole.is)) c.value_of_number.ensures

pub returns-in-Fixed : goal.returns-in-Fixed
returns-in-Fixed c = λ t agg is.
    entry_by agg.name _ c.args.number c.value_of_number-in-Fixed.result
    (is.fixed.is ∙ ap (λ n. result_attribute agg.name (kind_of (value_of_number n))) (sym c.in-Fixed.is)) c.value_of_number-in-Fixed.ensures
