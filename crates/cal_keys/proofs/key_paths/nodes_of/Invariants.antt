use Rattle.std.proofs.Common.{◌≡◌, map, take}
use Rattle.cal_keys.specs.declared.share.Share.{Share}
use Rattle.cal_keys.proofs.key_paths.nodes_of.Given as goal

abbrev pub invariant-loop-share : goal.invariant-loop-share
invariant-loop-share l = record {
  nodes : l.nodes.items ≡ map (λ (share : Share). share.node) (take l.share-index l.shares);
}
