use Rattle.std.proofs.Common.{◌≡◌, ◌++◌, take}
use Rattle.cal_delivery.proofs.numbering.add_nodes.Given as goal

-- the nodes so far
abbrev pub invariant-loop-node : goal.invariant-loop-node
invariant-loop-node l = l.nodes.items ≡ l.fn.nodes.items ++ take l.node-index l.refs
