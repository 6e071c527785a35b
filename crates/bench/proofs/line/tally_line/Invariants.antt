use Rattle.std.proofs.Common.{◌≡◌}
use Rattle.bench.proofs.line.tally_line.Given as goal

-- the line isn't counted yet
abbrev pub invariant-loop-place : goal.invariant-loop-place
invariant-loop-place l = l.tally.lines ≡ l.fn.tally.lines
