use Rattle.cal_treefmt.proofs.Walking.{Walks-child}
use Rattle.cal_treefmt.proofs.nodes.add_child.Goals as goal

pub returns : goal.returns
returns c =
    Walks-child c.args.context.now c.attribute.new.self c.child.new.self c.args.parent (record { attr = c.args.attribute.now; value = c.args.value.now })
    c.in_ok-number.number c.in_ok-node.node c.requires
    c.in_ok-number.ensures.added c.in_ok-number.ensures.grows c.in_ok-node.ensures.added c.in_ok-node.ensures.grows
