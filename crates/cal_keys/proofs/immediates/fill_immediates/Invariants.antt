use Rattle.std.proofs.Common.{◌≡◌, ◌<◌, ◌++◌, length, map, reverse}
use Rattle.cal_context.specs.Snapshots.{entry_of}
use Rattle.cal_context.specs.Tree.{path_at}
use Rattle.cal_keys.proofs.immediates.fill_immediates.Given as goal

abbrev pub invariant-loop-link : goal.invariant-loop-link
invariant-loop-link l = record {
  node : l.node.0 < length l.context.paths;
  rest : path_at l.context l.fn.node
      ≡ path_at l.context l.node ++ map (entry_of l.context) (reverse l.imms.items);
}

abbrev pub decreases-loop-link : goal.decreases-loop-link
decreases-loop-link l = l.node.0
