use Rattle.std.proofs.Common.{◌≡◌}
use Rattle.tests_collect.proofs.many.merge_all.Given as goal

abbrev pub invariant-loop-number : goal.invariant-loop-number
invariant-loop-number l = l.table.shape ≡ l.shape
