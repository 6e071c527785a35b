use Rattle.std.proofs.Common.{◌≡◌, ◌<◌, ◌++◌, length, reverse}
use Rattle.cal_context.specs.Tree.{path_at}
use Rattle.cal_context.proofs.expansion.expand_node.Given as goal

abbrev pub invariant-loop-link : goal.invariant-loop-link
invariant-loop-link l = record {
  within : l.node.0 < length l.context.paths;
  rest : path_at l.context l.fn.node ≡ path_at l.context l.node ++ reverse l.path.items;
}

abbrev pub decreases-loop-link : goal.decreases-loop-link
decreases-loop-link l = l.node.0
