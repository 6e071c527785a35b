use Rattle.std.proofs.Common.{◌≡◌, ◌+◌, ◌<◌, ◌++◌, length, reverse, map, All}
use Rattle.cal_context.specs.Tree.{path_at}
use Rattle.cal_rowset.specs.Filling.{names}
use Rattle.cal_rowset.specs.Links.{IsEntryOf, link_entry}
use Rattle.cal_rowset.specs.Rooms.{GoesTo, KnowsEach}
use Rattle.cal_rowset.proofs.walk.walk.Given as goal

-- the node that the cells have come up to, and the links noted so far, from the goal up
abbrev pub invariant-loop-node : goal.invariant-loop-node
invariant-loop-node l = record {
  same : names l.cells ≡ names l.fn.cells;
  node_within : l.node.0 < length l.context.paths;
  below_within : l.below.0 < length l.context.paths;
  up : KnowsEach l.context (names l.fn.cells) l.places → GoesTo l.context l.fn.cells l.fn.from l.cells l.node;
  root : l.fn.from.0 ≡ 0 → l.node.0 ≡ 0;
  down : path_at l.context l.fn.to ≡ path_at l.context l.below ++ map (link_entry l.context) (reverse l.links.items);
  entries : All (IsEntryOf l.context) l.links.items;
}

abbrev pub decreases-loop-node : goal.decreases-loop-node
decreases-loop-node l = l.node.0 + l.below.0
