use Rattle.std.proofs.Common.{◌≡◌, ◌++◌, map, take}
use Rattle.cal_groups.specs.Keys.{number_at}
use Rattle.cal_groups.proofs.numbers.add_numbers.Given as goal

-- the numbers of the nodes so far
abbrev pub invariant-loop-node : goal.invariant-loop-node
invariant-loop-node l = l.numbers.items
    ≡ l.fn.numbers.items ++ map (number_at l.nodes) (take l.node-index l.refs)
