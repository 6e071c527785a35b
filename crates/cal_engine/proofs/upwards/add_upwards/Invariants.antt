use Rattle.std.proofs.Common.{◌≡◌, ◌<◌, true, length}
use Rattle.cal_context.specs.Tree.{path_at}
use Rattle.cal_engine.specs.Totals.{IsAddedFrom}
use Rattle.cal_keys.specs.Trails.{begins}
use Rattle.cal_engine.proofs.upwards.add_upwards.Given as goal

abbrev pub invariant-loop-link : goal.invariant-loop-link
invariant-loop-link l = record {
  within : l.at.0 < length l.context.paths;
  long : length l.totals.items ≡ length l.context.paths;
  above : begins (path_at l.context l.at) (path_at l.context l.fn.node) ≡ true;
  added : IsAddedFrom l.context l.fn.node l.at l.parts l.initial.totals.items l.totals.items;
}

abbrev pub decreases-loop-link : goal.decreases-loop-link
decreases-loop-link l = l.at.0
