use Rattle.std.proofs.Common.{arith}
use Rattle.cal_keys.proofs.ReadSame.{read_same}
use Rattle.cal_keys.proofs.MovedNumbers.{nodes_next}
use Rattle.cal_keys.proofs.moving.renumbered_nodes.Goals as goal

pub loop-node-preserved : goal.loop-node-preserved
loop-node-preserved c = λ t u are.
    nodes_next t u c.args.nodes.now c.args.moved.now c.loop-node.node-index _ c.in-Some.number c.loop-node.numbers.items c.push.new.self.items
    (omega arith) (read_same c.args.nodes.now c.loop-node.node-index _ _ (omega arith)) are (c.number_in.ensures c.in-Some.number c.in-Some.is)
    (c.loop-node.invariant t u are) c.in_ok-push.ensures.items
