use Rattle.std.proofs.Common.{◌≡◌, take}
use Rattle.std.specs.List.{flat_map}
use Rattle.cal_delivery.specs.KeyNodes.{nodes_of}
use Rattle.cal_delivery.proofs.numbering.nodes_of_keys.Given as goal

-- the nodes of the keys so far
abbrev pub invariant-loop-key : goal.invariant-loop-key
invariant-loop-key l = l.nodes.items ≡ flat_map nodes_of (take l.key-index l.keys)
