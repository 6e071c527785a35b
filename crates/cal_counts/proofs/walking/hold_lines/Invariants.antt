use Rattle.std.proofs.Common.{drop, map}
use Rattle.cal_context.specs.Tree.{Grows}
use Rattle.cal_run.specs.Numbers.{AreNumbered}
use Rattle.cal_run.specs.Paths.{held_by_thread, own_operation}
use Rattle.cal_counts.proofs.HoldingLemmas.{IsHeldSoFar}
use Rattle.cal_counts.proofs.walking.hold_lines.Given as goal

-- what the board held behind the lines so far is held
abbrev pub invariant-loop-line : goal.invariant-loop-line
invariant-loop-line l = record {
  numbered : AreNumbered l.context l.script l.numbers;
  grows : Grows l.fn.context l.context;
  so_far : IsHeldSoFar l.script l.fn.context l.context l.fn.held.nodes l.held.nodes l.board
      (map (own_operation l.script) (drop l.line-index l.lines))
      (held_by_thread l.script l.lines);
}
