use Rattle.std.proofs.Common.{map, take}
use Rattle.cal_keys.specs.Keys.{key_in}
use Rattle.cal_keys.specs.Leading.{AreWaysBehind}
use Rattle.cal_keys.specs.Trails.{no_marks}
use Rattle.cal_keys.proofs.single_paths.own_nodes.Given as goal

-- the nodes of the groups so far
abbrev pub invariant-loop-number : goal.invariant-loop-number
invariant-loop-number l = AreWaysBehind l.tree no_marks (map (key_in l.tree) (take l.number l.keys)) l.nodes.items
