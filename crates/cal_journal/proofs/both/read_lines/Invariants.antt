use Rattle.std.proofs.Common.{length}
use Rattle.cal_script.specs.Rests.{bytes_in}
use Rattle.cal_journal.proofs.JournalRuns.{IsFrontRun}
use Rattle.cal_journal.proofs.both.read_lines.Given as goal

-- so many lines are read, and the rest has the others
abbrev pub invariant-loop-text : goal.invariant-loop-text
invariant-loop-text l = IsFrontRun l.bytes l.line l.reader (bytes_in l.rest)

abbrev pub decreases-loop-text : goal.decreases-loop-text
decreases-loop-text l = length (bytes_in l.rest)
