use Rattle.std.proofs.Common.{arith}
use Rattle.cal_rowset.proofs.Walking.{noted-down, met-down}
use Rattle.cal_rowset.proofs.walk.walk.Goals as goal

pub loop-node-preserved : goal.loop-node-preserved
loop-node-preserved c =
    let kept = c.loop-node.invariant in
    let noted = c.in_ok-below.ensures.noted in
    record {
      same = kept.same;
      node_within = kept.node_within;
      below_within = omega (arith, kept.below_within, c.in_ok-below.ensures.less);
      up = kept.up;
      root = kept.root;
      down = noted-down c.args.context.now c.args.to c.loop-node.below _ c.loop-node.links.items _ noted.0 kept.down noted.2 noted.1;
      entries = c.in_ok-below.ensures.entries kept.entries;
    }

pub returns-clause-down : goal.returns-clause-down
returns-clause-down c =
    met-down c.args.context.now c.args.to c.loop-node.below c.loop-node.node c.loop-node.links.items c.reverse.new.self.items c.loop-node.invariant.down c.loop-node-test.false c.reverse.ensures.items
