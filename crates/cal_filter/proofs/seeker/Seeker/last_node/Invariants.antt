use Rattle.std.proofs.Common.{◌≡◌, ◌<◌, map, take, length, None}
use Rattle.std.specs.List.{last_or}
use Rattle.cal_context.specs.Tree.{path_at}
use Rattle.cal_filter.specs.Known.{KnowsAll, sought}
use Rattle.cal_filter.specs.Sought.{last_sought}
use Rattle.cal_value.specs.Flat.{joined}
use Rattle.cal_filter.proofs.seeker.Seeker.last_node.Given as goal

-- the last one of the nodes before this place
abbrev pub invariant-loop-node : goal.invariant-loop-node
invariant-loop-node l = record {
  within : KnowsAll l.context l.self → l.last.0 < length l.context.paths;
  last : KnowsAll l.context l.self
      → last_sought (sought l.self) (joined (map (path_at l.context) (take l.node-index l.nodes)))
      ≡ last_or None (path_at l.context l.last);
}
