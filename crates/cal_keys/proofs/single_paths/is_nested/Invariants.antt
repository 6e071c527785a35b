use Rattle.cal_keys.specs.OwnWays.{AreNestedBefore}
use Rattle.cal_keys.proofs.single_paths.is_nested.Given as goal

abbrev pub invariant-loop-place : goal.invariant-loop-place
invariant-loop-place l = AreNestedBefore l.tree l.place
