use Rattle.std.proofs.Common.{sym}
use Rattle.cal_write.proofs.KeptLemmas.{attribute-known}
use Rattle.cal_write.proofs.node_writer.NodeWriter.need_attribute.Goals as goal

pub returns-in-Some-clause-needs : goal.returns-in-Some-clause-needs
returns-in-Some-clause-needs c = attribute-known c.args.context.now c.args.self.now c.args.attribute c.in-Some.id (sym c.in-Some.ensures)
