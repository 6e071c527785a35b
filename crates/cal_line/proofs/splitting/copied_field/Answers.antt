use Rattle.std.proofs.Common.{sym, ◌∙◌, ap, ◌++◌, ◌∷◌, [], List, ℕ, Some}
use Rattle.cal_line.proofs.Exits.{take-found}
use Rattle.cal_line.proofs.splitting.copied_field.Goals as goal

pub loop-place-preserved : goal.loop-place-preserved
loop-place-preserved c =
    c.in_ok-push.ensures.ok
    ∙ ap (λ (front : List (List ℕ)). front ++ c.in_ok-to_text.field-0 ∷ []) c.loop-place.invariant
    ∙ sym (take-found c.args.field.now.values c.loop-place.place c.in_ok-to_text.field-0 (c.value.ensures ∙ ap Some (sym c.in_ok-to_text.ensures)))
