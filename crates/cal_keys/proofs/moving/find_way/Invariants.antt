use Rattle.std.proofs.Common.{◌<◌, length}
use Rattle.std.specs.List.{All}
use Rattle.cal_keys.proofs.moving.find_way.Given as goal

abbrev pub invariant-loop-link : goal.invariant-loop-link
invariant-loop-link l = record {
  node : l.node.0 < length l.from.paths;
  way : All (λ n. n.0 < length l.from.paths) l.way.items;
}

abbrev pub decreases-loop-link : goal.decreases-loop-link
decreases-loop-link l = l.node.0
