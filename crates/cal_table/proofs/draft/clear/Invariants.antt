use Rattle.std.proofs.Common.{length}
use Rattle.cal_table.proofs.draft.clear.Given as goal

-- each pass takes one entry away
abbrev pub decreases-loop : goal.decreases-loop
decreases-loop l = length l.entries
