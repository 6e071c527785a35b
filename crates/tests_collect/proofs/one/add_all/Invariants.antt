use Rattle.std.proofs.Common.{◌≡◌}
use Rattle.tests_collect.proofs.one.add_all.Given as goal

abbrev pub invariant-loop-place : goal.invariant-loop-place
invariant-loop-place l = l.table.shape ≡ l.initial.table.shape
