use Rattle.std.proofs.Common.{arith, subst}
use Rattle.cal_context.specs.Lists.{Adds}
use Rattle.cal_context.specs.Tree.{no_attribute}
use Rattle.cal_treefmt.proofs.Naming.{learned}
use Rattle.cal_treefmt.proofs.columns.learn.Goals as goal

pub returns : goal.returns
returns c = λ test before.
    learned test c.args.names.now c.learn.new.self c.args.context.now.attributes c.in-Ok.number c.args.number no_attribute (omega (arith, c.in-Ok.ensures)) c.requires
    (subst (λ a. Adds c.args.names.now a.name c.learn.new.self) c.attribute_at-attribute.ensures c.in_ok-learn.ensures.learned.adds) before
