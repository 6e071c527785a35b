use Rattle.std.proofs.Common.{[], FitsSigned, Some, rules, sym, ap, ◌∙◌}
use Rattle.std.specs.Prelude.{ℤ, slice_get, slice_index_or}
use Rattle.std.proofs.lemmas.Int.{to_z-of_z}
use Rattle.cal_agg.specs.declared.num.Num.TheVariants.{Whole}
use Rattle.cal_filter.specs.Kept.{result_entry}
use Rattle.cal_filter.specs.Numbers.{value_of_number}
use Rattle.cal_engine.proofs.ShownEntries.{shown-entry}
use Rattle.cal_engine.proofs.kernel_results.found_at.Goals as goal
use mir.Syntax.{w64, w128}

pub returns-in-Some : goal.returns-in-Some
returns-in-Some c = λ t agg lists is kept.
    let fits : FitsSigned w128 c.from.result = search rules in
    let short : FitsSigned w64 c.in-Some.whole = search rules in
    ap Some (c.immediate.ensures t agg is
    ∙ ap (λ (n : ℤ). result_entry agg.name (value_of_number (Whole n)))
    (to_z-of_z w128 c.from.result fits ∙ c.from.ensures
    ∙ to_z-of_z w64 c.in-Some.whole short))
    ∙ sym (shown-entry agg lists c.args.attributes.now.kernel _ c.in-Some.whole is.kernel
    (ap (λ ps. slice_get (slice_index_or ps c.args.number []) c.args.place) c.parts.ensures.parts
    ∙ kept.own) c.in-Some.ensures)
