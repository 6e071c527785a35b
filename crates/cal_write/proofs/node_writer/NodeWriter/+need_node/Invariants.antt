use Rattle.cal_write.proofs.node_writer.NodeWriter.+need_node.Given as goal

-- a parent comes before its node
abbrev pub decreases-need_node : goal.decreases-need_node
decreases-need_node l = l.node.0
