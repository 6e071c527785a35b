use Rattle.std.proofs.Common.{◌≡◌, ◌<◌, length}
use Rattle.cal_treefmt.specs.Ways.{LeadsTo}
use Rattle.cal_treefmt.proofs.ways.Ways.climb.Given as goal

-- the nodes that are left so far
abbrev pub invariant-loop-above : goal.invariant-loop-above
invariant-loop-above l = record {
  within : l.up.0 < length l.context.paths;
  left : LeadsTo l.context l.up l.self.left.items l.fn.node;
  known : l.self.known.items ≡ l.fn.self.known.items;
}

abbrev pub decreases-loop-above : goal.decreases-loop-above
decreases-loop-above l = l.up.0
