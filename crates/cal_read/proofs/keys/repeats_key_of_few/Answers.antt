use Rattle.std.proofs.Common.{take, sym, ap, ◌∙◌, ◌||◌}
use Rattle.std.specs.List.{list_any}
use Rattle.cal_read.specs.Fields.{has_key}
use Rattle.cal_read.proofs.FieldLemmas.{repeats_at, repeats_found}
use Rattle.cal_read.proofs.keys.repeats_key_of_few.Goals as goal

pub returns-then-branch : goal.returns-then-branch
returns-then-branch c =
    sym (repeats_found c.args.fields.now c.loop-place.place c.get-field.result c.get-field.ensures
    (ap (λ k. list_any (has_key k) (take c.loop-place.place c.args.fields.now)) (sym (c.as_str.ensures.value ∙ c.in_ok-key.ensures ∙ c.key.ensures))
    ∙ sym c.in_ok-has_key_before.ensures ∙ c.if-branch.true))

pub loop-place-preserved : goal.loop-place-preserved
loop-place-preserved c =
    repeats_at c.args.fields.now c.loop-place.place c.get-field.result c.get-field.ensures
    ∙ (λ j. c.loop-place.invariant j || (ap (λ k. list_any (has_key k) (take c.loop-place.place c.args.fields.now)) (sym (c.as_str.ensures.value ∙ c.in_ok-key.ensures ∙ c.key.ensures))
    ∙ sym c.in_ok-has_key_before.ensures ∙ c.if-branch.false) j)
