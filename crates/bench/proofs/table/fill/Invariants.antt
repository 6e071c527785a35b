use Rattle.std.proofs.Common.{◌≡◌}
use Rattle.bench.proofs.table.fill.Given as goal

abbrev pub invariant-loop-number : goal.invariant-loop-number
invariant-loop-number l = l.table.snapshots ≡ l.number
