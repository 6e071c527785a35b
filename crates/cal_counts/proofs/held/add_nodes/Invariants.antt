use Rattle.std.proofs.Common.{map, take}
use Rattle.cal_context.specs.Tree.{path_at}
use Rattle.cal_run.specs.Holding.{HoldsPaths}
use Rattle.cal_counts.proofs.held.add_nodes.Given as goal

-- the nodes so far are added
abbrev pub invariant-loop-node : goal.invariant-loop-node
invariant-loop-node l = HoldsPaths l.context l.context l.fn.held l.held
    (map (path_at l.context) (take l.node-index l.nodes))
