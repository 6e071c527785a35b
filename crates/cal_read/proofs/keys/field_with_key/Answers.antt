use Rattle.std.proofs.Common.{◌+◌, drop, sym, ap, ◌∙◌, if◌then◌else◌}
use Rattle.cal_read.specs.Fields.{values_of}
use Rattle.cal_read.proofs.FieldLemmas.{values_of_at}
use Rattle.cal_read.proofs.keys.field_with_key.Goals as goal

pub returns-then-branch : goal.returns-then-branch
returns-then-branch c =
    c.loop-place.invariant ∙ values_of_at c.args.key.now c.args.fields.now c.loop-place.place c.get-field.result c.get-field.ensures
    ∙ ap (λ b. if b then c.get-field.result.values else values_of c.args.key.now (drop (c.loop-place.place + 1) c.args.fields.now)) (sym c.in_ok-has_key.ensures ∙ c.if-branch.true)

pub loop-place-preserved : goal.loop-place-preserved
loop-place-preserved c =
    c.loop-place.invariant ∙ values_of_at c.args.key.now c.args.fields.now c.loop-place.place c.get-field.result c.get-field.ensures
    ∙ ap (λ b. if b then c.get-field.result.values else values_of c.args.key.now (drop (c.loop-place.place + 1) c.args.fields.now)) (sym c.in_ok-has_key.ensures ∙ c.if-branch.false)
