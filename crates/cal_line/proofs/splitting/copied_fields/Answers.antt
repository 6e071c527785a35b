use Rattle.std.proofs.Common.{sym, ◌∙◌, ap, ◌++◌, ◌∷◌, [], List, Some}
use Rattle.cal_line.specs.declared.field.Field.{Field}
use Rattle.cal_line.proofs.Exits.{take-found}
use Rattle.cal_line.proofs.splitting.copied_fields.Goals as goal

pub loop-place-preserved : goal.loop-place-preserved
loop-place-preserved c =
    c.in_ok-push.ensures.ok
    ∙ ap (λ (front : List Field). front ++ c.in_ok-copied_field.field-0 ∷ []) c.loop-place.invariant
    ∙ sym (take-found c.args.fields.now c.loop-place.place c.in_ok-copied_field.field-0 (c.get.ensures ∙ ap Some (sym c.in_ok-copied_field.ensures)))
