use Rattle.std.proofs.Common.{sym, ap, subst, ◌∙◌}
use Rattle.cal_engine.specs.Folding.{Gathers}
use Rattle.cal_parts.specs.Readings.{parts_of}
use Rattle.cal_engine.proofs.Folds.{folded_grouped}
use Rattle.cal_engine.proofs.fold.Fold.add_kept.Goals as goal

pub returns-in_ok-gather-clause-ok : goal.returns-in_ok-gather-clause-ok
returns-in_ok-gather-clause-ok c = λ q rs is.
    folded_grouped q rs c.args.kept _ (c.self.view_is ∙ is) c.gather.new.self c.in_ok-parts.parts
    (sym c.is_aggregated.ensures ∙ c.if-is_aggregated.true)
    (c.in_ok-parts.ensures ∙ ap (λ rs. parts_of rs c.args.kept) (c.deref.ensures.value ∙ c.self.invariant.1))
    (subst (λ key. Gathers c.self.inside.groups key c.in_ok-parts.parts c.gather.new.self) c.in_ok-key.ensures c.in_ok-gather.ensures.ok)
