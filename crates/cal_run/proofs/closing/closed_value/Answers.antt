use Rattle.std.proofs.Common.{subst}
use Rattle.cal_board.specs.Blackboard.{slot_number}
use Rattle.cal_board.specs.Slots.{opened_in}
use Rattle.cal_context.specs.Tree.{no_value}
use Rattle.cal_run.proofs.ServiceLemmas.{asked-last, closed-none, closed-shown, closed_in}
use Rattle.cal_run.proofs.ServiceLemmas.{last-stands}
use Rattle.cal_run.specs.Adding.{IsEventValue}
use Rattle.cal_run.specs.declared.sink.EventValue.TheVariants as event_value
use Rattle.cal_run.proofs.closing.closed_value.Goals as goal

pub last_value-requires-clause-stands : goal.last_value-requires-clause-stands
last_value-requires-clause-stands g c = (
  opened_in (slot_number c.attr_ref-attr.result) c.requires.stands.0.references,
  last-stands (g.V.NodeValues.is_node c.args.nodes.now) c.args.board.now c.requires.stands.0
      c.requires.stands.1 c.attr_ref-attr.result _ c.in-Some-last_node.ensures,
)

pub last_value-requires-clause-asked : goal.last_value-requires-clause-asked
last_value-requires-clause-asked g c =
    asked-last (g.V.NodeValues.is_asked c.args.nodes.now) c.args.script.now c.args.board.now c.args.op
    c.attr_ref-attr.result c.attr_ref-attr.ensures c.requires.asked c.if-attr.false _
    c.in-Some-last_node.ensures

pub returns-in-Some-last_node : goal.returns-in-Some-last_node
returns-in-Some-last_node g c = λ b is.
    let a = c.attr_ref-attr.result in
    let is_node = g.V.NodeValues.is_node c.args.nodes.now in
    let values = c.args.script.now.values in
    subst (λ a. IsEventValue values c.last_value.result (closed_in b a)) c.attr_ref-attr.ensures
    (closed-shown is_node c.args.board.now b is a c.if-attr.false values c.last_value.result
    (c.last_value.ensures values c.requires.values (opened_in (slot_number a) b.references)
    (last-stands is_node c.args.board.now b is a _ c.in-Some-last_node.ensures)))

pub returns-in-None-last_node : goal.returns-in-None-last_node
returns-in-None-last_node g c = λ b is.
    let a = c.attr_ref-attr.result in
    subst (λ a. IsEventValue c.args.script.now.values event_value.Absent (closed_in b a))
    c.attr_ref-attr.ensures
    (closed-none (g.V.NodeValues.is_node c.args.nodes.now) c.args.board.now b is a c.if-attr.false
    c.in-None-last_node.ensures)
