use Rattle.std.proofs.Common.{take}
use Rattle.cal_engine.specs.Totals.{AreTotals}
use Rattle.cal_engine.proofs.below.totals.Given as goal

abbrev pub invariant-loop-number : goal.invariant-loop-number
invariant-loop-number l =
    AreTotals l.context (take l.number l.nodes) (take l.number l.parts) l.none l.totals.items
