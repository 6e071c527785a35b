use Rattle.std.proofs.Common.{map, take}
use Rattle.cal_keys.specs.Keys.{key_in}
use Rattle.cal_keys.specs.Leading.{AreWays}
use Rattle.cal_keys.proofs.ways.ways_to_keys.Given as goal

-- the nodes of the groups so far
abbrev pub invariant-loop-number : goal.invariant-loop-number
invariant-loop-number l =
    AreWays l.context (map (key_in l.tree) (take l.number l.keys)) l.nodes.items
