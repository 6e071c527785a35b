use Rattle.std.proofs.Common.{List, sym, subst, take, refl, ◌+◌}
use Rattle.cal_context.specs.declared.numbers.NodeNumber.{NodeNumber}
use Rattle.cal_keys.specs.Leading.{AreWays}
use Rattle.cal_keys.proofs.Reaching.{ways-more}
use Rattle.cal_keys.proofs.ways.ways_to.Goals as goal

pub loop-key-preserved : goal.loop-key-preserved
loop-key-preserved c =
    subst (λ (nodes : List NodeNumber). AreWays c.way_to.new.context (take (c.loop-key.key-index + 1) c.args.keys.now) nodes) (sym c.in_ok-push.ensures.items)
    (ways-more c.loop-key.context c.way_to.new.context c.args.keys.now c.loop-key.key-index c.key-item.result c.loop-key.nodes.items c.in_ok-node.node _
    c.in_ok-node.ensures.grows c.loop-key-test.true c.key-item.is c.loop-key.invariant refl c.in_ok-node.ensures.leads)
