use Rattle.cal_read.proofs.UsualNodeLemmas.{id_there}
use Rattle.cal_read.proofs.usual_node.id_behind.Goals as goal

pub returns-in-Some : goal.returns-in-Some
returns-in-Some c = id_there c.args.line.now c.args.place c.in_ok-start.start c.in-Some.at.end c.args.bytes.now c.in-Some.at.number c.in_ok-start.ensures c.in-Some.ensures
