use Rattle.std.proofs.Common.{sym}
use Rattle.cal_write.proofs.KeptLemmas.{node-known}
use Rattle.cal_write.proofs.node_writer.NodeWriter.node_id.Goals as goal

pub returns-in-Some : goal.returns-in-Some
returns-in-Some c = node-known c.args.context.now c.args.self.now c.args.node c.in-Some.id (sym c.in-Some.ensures)
