use Rattle.std.proofs.Common.{arith}
use Rattle.cal_context.proofs.CallerLemmas.{Grows-trans, within_paths}
use Rattle.cal_keys.proofs.Reaching.{stepped}
use Rattle.cal_keys.proofs.stepping.step.Goals as goal

pub child-requires-clause-parent : goal.child-requires-clause-parent
child-requires-clause-parent c = within_paths c.in_ok-number.ensures.grows c.args.parent.0 (omega arith)

pub child-requires-clause-attribute : goal.child-requires-clause-attribute
child-requires-clause-attribute c = c.in_ok-number.ensures.numbered.within

pub returns-clause-step : goal.returns-clause-step
returns-clause-step c =
    stepped c.args.context.now c.number_in.new.context c.child.new.self c.args.parent
    (record { attr = c.args.attribute.now; value = c.args.value.now }) c.in_ok-number.number c.in_ok-node.node (omega arith)
    c.in_ok-number.ensures.numbered c.in_ok-number.ensures.grows c.in_ok-node.ensures.added c.in_ok-node.ensures.grows

pub returns-clause-grows : goal.returns-clause-grows
returns-clause-grows c =
    Grows-trans c.args.context.now c.number_in.new.context c.child.new.self c.in_ok-number.ensures.grows c.in_ok-node.ensures.grows
