use Rattle.cal_read.proofs.UsualNodeLemmas.{parent_there}
use Rattle.cal_read.proofs.usual_node.parent_at.Goals as goal

pub returns : goal.returns
returns c = parent_there c.args.line.now c.args.place c.in_ok-parent.parent.end c.in_ok-parent.parent.number c.in_ok-parent.ensures c.if-parent-line.false
