use Rattle.std.proofs.Common.{◌≡◌, Some, sym, ap, ◌∙◌}
use Rattle.std.specs.Cmp.Lexicographic.{bytes_decides}
use Rattle.std.proofs.lemmas.Option.{slice_get-get_or}
use Rattle.cal_value.specs.declared.variant.Variant.TheVariants as variant
use Rattle.cal_script.proofs.value_list.is_at.Goals as goal

pub returns-in-Some-Text : goal.returns-in-Some-Text
returns-in-Some-Text c = λ same.
    let seen = c.in-Some-Text.ensures.lookup in
    let text : c.as_str.result.now ≡ c.args.text.now = (bytes_decides c.as_str.result.now c.args.text.now).0 (sym c.eq.ensures ∙ same) in
    slice_get-get_or c.args.kept.now c.args.place c.in-Some-Text.field-0.now seen.3.0
    ∙ ap Some (sym seen.1 ∙ c.in-Some-Text.field-0-is ∙ ap variant.Text (sym c.as_str.ensures ∙ text))
