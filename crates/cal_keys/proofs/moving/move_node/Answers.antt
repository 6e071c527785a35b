use Rattle.cal_keys.proofs.MovedNumbers.{nodes_set}
use Rattle.std.proofs.Common.{subst, sym}
use Rattle.cal_keys.specs.Moves.{AreMovedNodes}
use Rattle.cal_keys.proofs.moving.move_node.Goals as goal

pub returns-clause-moved : goal.returns-clause-moved
returns-clause-moved c = λ are.
    let t = c.args.from.now in
    nodes_set t c.args.to.now c.put_node.new.to c.args.moved.now.items c.keep.new.moved.items c.args.node c.in_ok-number.number
    c.in_ok-number.ensures.grows are c.in_ok-keep.ensures
    (c.in_ok-number.ensures.leads (subst (AreMovedNodes t c.args.to.now) (sym c.deref.ensures.value) are))
