use Rattle.std.proofs.Common.{[], ap, ◌∙◌}
use Rattle.std.specs.Prelude.{slice_get, slice_index_or}
use Rattle.cal_engine.proofs.kernel_results.worked_out_at.Goals as goal

pub returns : goal.returns
returns c = λ t agg lists is kept.
    let parts = c.args.groups.now.parts in
    let read = c.get-own_part.ensures
    ∙ ap (λ ps. slice_get (slice_index_or ps c.args.number []) c.args.place)
    c.parts.ensures.parts in
    c.result_at.ensures t agg lists is
    (c.as_ref-2.ensures.value ∙ read ∙ kept.own)
    (c.part_at-all_part.ensures ∙ ap (λ ps. slice_get ps c.args.place) c.all.ensures ∙ kept.all)
    (c.as_ref-3.ensures.value ∙ c.below_at-below_part.ensures parts (c.as_ref.ensures.value ∙ read)
    ∙ kept.below)
