use Rattle.std.proofs.Common.{◌≡◌}
use Rattle.cal_context.specs.Tree.{Grows}
use Rattle.cal_nodes.specs.Ways.{CanDescend}
use Rattle.cal_nodes.proofs.Descending.{GoesDown}
use Rattle.cal_nodes.proofs.descent.descend.Given as goal

-- the steps that are left go down from the number that was put last
abbrev pub invariant-loop-step : goal.invariant-loop-step
invariant-loop-step l = record {
  grows : Grows l.fn.context l.context;
  attributes : l.context.attributes ≡ l.fn.context.attributes;
  can : CanDescend l.context l.numbers.items l.number l.steps.items;
  goes : GoesDown l.fn.context l.fn.numbers.items l.fn.start l.fn.steps.items l.context
      l.numbers.items l.number l.steps.items;
}

abbrev pub decreases-loop-step : goal.decreases-loop-step
decreases-loop-step l = goal.left-loop-step l
