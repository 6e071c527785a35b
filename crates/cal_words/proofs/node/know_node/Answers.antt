use Rattle.std.proofs.Common.{refl, arith}
use Rattle.cal_words.proofs.node.know_node.Goals as goal

pub returns-clause-node : goal.returns-clause-node
returns-clause-node c = record {
  parent = c.args.node.now.parent.0;
  depth = c.args.node.now.depth;
  attr = c.args.node.now.attr;
  value = c.args.node.now.value.now;
  small = (omega arith, c.requires.depth, omega arith);
  is_value = c.know_value.ensures;
  spelled = refl;
}
