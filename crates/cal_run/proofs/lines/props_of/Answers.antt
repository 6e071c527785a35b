use Rattle.std.proofs.Common.{sym, ap}
use Rattle.cal_context.specs.Tree.{no_attribute}
use Rattle.cal_run.proofs.HeldLemmas.{read-past}
use Rattle.cal_value.specs.declared.attribute.Attribute.{Attribute}
use Rattle.cal_run.proofs.lines.props_of.Goals as goal

pub returns-in-None : goal.returns-in-None
returns-in-None c =
    ap (λ (a : Attribute). a.props)
    (sym (read-past c.args.script.now.attributes c.args.attr no_attribute c.in-None.ensures))
