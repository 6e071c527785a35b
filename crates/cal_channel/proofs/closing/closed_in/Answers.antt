use Rattle.std.proofs.Common.{ap, sym, ◌∙◌}
use Rattle.std.specs.Prelude.{option_copied}
use Rattle.cal_board.specs.Blackboard.{slot_number}
use Rattle.cal_board.specs.Slots.{opened_in}
use Rattle.cal_hand.proofs.LastLemmas.{node_stands}
use Rattle.cal_hand.specs.Nodes.{NodeAt}
use Rattle.cal_channel.proofs.closing.closed_in.Goals as goal

pub own_value-requires-clause-node : goal.own_value-requires-clause-node
own_value-requires-clause-node c =
    let r = c.requires.board in (
      opened_in (slot_number c.args.attr) r.0.references,
      node_stands (NodeAt c.args.tree.now c.args.seat.now) c.args.board.now r.0 r.1 c.args.attr
          c.if-attr.false c.in-Some.node.now
          (sym c.last_node.ensures ∙ ap option_copied c.in-Some.is),
    )
