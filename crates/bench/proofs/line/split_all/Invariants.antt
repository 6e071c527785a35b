use Rattle.std.proofs.Common.{◌≡◌}
use Rattle.bench.proofs.line.split_all.Given as goal

-- the lines so far are counted
abbrev pub invariant-loop-line : goal.invariant-loop-line
invariant-loop-line l = l.tally.lines ≡ l.line-index
