use Rattle.std.proofs.Common.{drop, map}
use Rattle.cal_context.specs.Tree.{Grows}
use Rattle.cal_run.specs.History.{placed_operation}
use Rattle.cal_run.specs.Numbers.{AreNumbered}
use Rattle.cal_run.specs.Paths.{held_by_process}
use Rattle.cal_counts.proofs.HoldingLemmas.{IsHeldSoFar}
use Rattle.cal_counts.proofs.walking.hold_history.Given as goal

-- what the board held behind the operations so far is held
abbrev pub invariant-loop-placed : goal.invariant-loop-placed
invariant-loop-placed l = record {
  numbered : AreNumbered l.context l.script l.numbers;
  grows : Grows l.fn.context l.context;
  so_far : IsHeldSoFar l.script l.fn.context l.context l.fn.held.nodes l.held.nodes l.board
      (map (placed_operation l.script) (drop l.placed-index l.history))
      (held_by_process l.script l.history);
}
