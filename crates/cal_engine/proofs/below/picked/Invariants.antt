use Rattle.std.proofs.Common.{◌≡◌, [], get_or, map, take}
use Rattle.cal_engine.proofs.below.picked.Given as goal

abbrev pub invariant-loop-node : goal.invariant-loop-node
invariant-loop-node l = l.picked.items ≡ map (λ n. get_or l.totals n.0 []) (take l.node-index l.nodes)
