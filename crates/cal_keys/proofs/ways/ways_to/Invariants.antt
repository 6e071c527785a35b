use Rattle.std.proofs.Common.{take}
use Rattle.cal_keys.specs.Leading.{AreWays}
use Rattle.cal_keys.proofs.ways.ways_to.Given as goal

-- the nodes of the groups so far
abbrev pub invariant-loop-key : goal.invariant-loop-key
invariant-loop-key l = AreWays l.context (take l.key-index l.keys) l.nodes.items
