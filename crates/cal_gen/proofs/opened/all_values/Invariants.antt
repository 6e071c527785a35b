use Rattle.cal_gen.specs.Places.{AreFirst}
use Rattle.cal_gen.proofs.opened.all_values.Given as goal

abbrev pub invariant-loop-place : goal.invariant-loop-place
invariant-loop-place l = AreFirst l.place l.kept
