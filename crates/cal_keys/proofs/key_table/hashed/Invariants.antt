use Rattle.std.proofs.Common.{◌≡◌, map, take}
use Rattle.cal_keys.specs.Keys.{single_key}
use Rattle.cal_keys.proofs.key_table.hashed.Given as goal

-- the keys of the nodes so far
abbrev pub invariant-loop-node : goal.invariant-loop-node
invariant-loop-node l = l.keys.keys ≡ map single_key (take l.node-index l.nodes)
