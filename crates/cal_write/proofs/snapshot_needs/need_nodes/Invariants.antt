use Rattle.std.proofs.Common.{take}
use Rattle.cal_write.specs.SnapshotNeeds.{NeedsNodes}
use Rattle.cal_write.proofs.snapshot_needs.need_nodes.Given as goal

-- what the nodes so far need is there
abbrev pub invariant-loop-node : goal.invariant-loop-node
invariant-loop-node l = NeedsNodes l.context l.fn.writer l.writer (take l.node-index l.nodes) l.ids.items
