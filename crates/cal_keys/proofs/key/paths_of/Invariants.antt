use Rattle.std.proofs.Common.{◌≡◌, map, take}
use Rattle.cal_context.specs.Tree.{path_at}
use Rattle.cal_keys.proofs.key.paths_of.Given as goal

abbrev pub invariant-loop-node : goal.invariant-loop-node
invariant-loop-node l = l.paths.items ≡ map (path_at l.context) (take l.node-index l.nodes)
