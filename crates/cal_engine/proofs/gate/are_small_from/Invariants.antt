use Rattle.cal_engine.specs.Gates.{AreSmallBefore}
use Rattle.cal_engine.proofs.gate.are_small_from.Given as goal

abbrev pub invariant-loop-place : goal.invariant-loop-place
invariant-loop-place l = AreSmallBefore l.context l.from → AreSmallBefore l.context l.place
