use Rattle.std.proofs.Common.{◌≡◌, map, take}
use Rattle.cal_context.specs.Tree.{Tree, path_at}
use Rattle.cal_keys.specs.Moves.{AreMovedNodes}
use Rattle.cal_keys.proofs.moving.renumbered_nodes.Given as goal

abbrev pub invariant-loop-node : goal.invariant-loop-node
invariant-loop-node l = (t u : Tree) → AreMovedNodes t u l.moved
    → map (path_at u) l.numbers.items ≡ map (path_at t) (take l.node-index l.nodes)
