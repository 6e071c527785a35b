use Rattle.std.proofs.Common.{◌≡◌}
use Rattle.bench.proofs.plain.plain_line.Given as goal

-- the line isn't counted yet
abbrev pub invariant-loop-piece : goal.invariant-loop-piece
invariant-loop-piece l = l.tally.lines ≡ l.fn.tally.lines
