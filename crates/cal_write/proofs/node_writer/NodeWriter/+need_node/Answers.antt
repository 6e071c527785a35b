use Rattle.std.proofs.Common.{sym}
use Rattle.cal_write.proofs.KeptLemmas.{node-known, node-needed}
use Rattle.cal_write.proofs.node_writer.NodeWriter.+need_node.Goals as goal

pub returns-in-Some-clause-needs : goal.returns-in-Some-clause-needs
returns-in-Some-clause-needs t c = node-known c.args.context.now c.args.self.now c.args.node c.in-Some.id (sym c.in-Some.ensures)

pub returns-clause-needs : goal.returns-clause-needs
returns-clause-needs t c =
    node-needed c.args.context.now c.args.self.now c.need_node.new.self c.add_node.new.self c.in-Some-link.link c.args.node c.in_ok-parent.parent c.in_ok-id.id
    c.in-Some-link.ensures.linked c.in_ok-parent.ensures.needs c.in_ok-id.ensures.adds
