use Rattle.std.proofs.Common.{refl, ap, ◌∙◌}
use Rattle.cal_engine.specs.Learning.{learned_one}
use Rattle.cal_engine.proofs.Visiting.{knows_one}
use Rattle.cal_engine.proofs.shown_names.ShownNames.learn_one.Goals as goal

pub returns-clause-knows : goal.returns-clause-knows
returns-clause-knows c =
    knows_one c.args.context.now c.args.self.now _ c.args.attribute c.requires.knows
    (c.in_ok-learn.ensures ∙ ap (λ a. learned_one c.args.self.now.names.keys a.name) c.attribute_at.ensures) refl
