use Rattle.std.proofs.Common.{◌≡◌, ◌<◌, ◌++◌, length, reverse, map, All}
use Rattle.cal_context.specs.Tree.{path_at}
use Rattle.cal_rowset.specs.Links.{IsEntryOf, link_entry}
use Rattle.cal_rowset.proofs.path.find_links.Given as goal

-- the links so far, from the node up, and the path that is left
abbrev pub invariant-loop-link : goal.invariant-loop-link
invariant-loop-link l = record {
  within : l.node.0 < length l.context.paths;
  rest : path_at l.context l.fn.node ≡ path_at l.context l.node ++ map (link_entry l.context) (reverse l.links.items);
  entries : All (IsEntryOf l.context) l.links.items;
}

abbrev pub decreases-loop-link : goal.decreases-loop-link
decreases-loop-link l = l.node.0
