use Rattle.std.proofs.Common.{◌≡◌, ◌++◌, ◌<◌, ◌⊎◌, length, map, reverse}
use Rattle.std.specs.List.{All}
use Rattle.cal_context.specs.Lists.{IsFront}
use Rattle.cal_context.specs.Tree.{attribute_at}
use Rattle.cal_context.specs.declared.numbers.NodeNumber.{NodeNumber}
use Rattle.cal_engine.specs.Visiting.{IsMet, attributes_on}
use Rattle.cal_engine.proofs.visits.climb.Given as goal

abbrev pub invariant-loop-link : goal.invariant-loop-link
invariant-loop-link l = record {
  within : l.at.0 < length l.context.paths;
  long : length l.met.items ≡ length l.context.paths;
  path : attributes_on l.context l.fn.node ≡ attributes_on l.context l.at ++ map (attribute_at l.context) (reverse l.trail.items);
  known : All (λ a. a.0 < length l.context.attributes) l.trail.items;
  met : (n : NodeNumber) → IsMet l.met.items n
      → IsMet l.initial.met.items n ⊎ ((l.at.0 < n.0) × IsFront (attributes_on l.context n) (attributes_on l.context l.fn.node));
}

abbrev pub decreases-loop-link : goal.decreases-loop-link
decreases-loop-link l = l.at.0
