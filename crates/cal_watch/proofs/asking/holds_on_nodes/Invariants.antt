use Rattle.std.proofs.Common.{◌≡◌, false, get_or, take}
use Rattle.std.specs.List.{list_any}
use Rattle.cal_watch.proofs.asking.holds_on_nodes.Given as goal

-- of none of the nodes so far
abbrev pub invariant-loop-node : goal.invariant-loop-node
invariant-loop-node l =
    list_any (λ n. get_or l.holding n.0 false) (take l.node-index l.nodes) ≡ false
