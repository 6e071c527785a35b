use Rattle.std.proofs.Common.{length}
use Rattle.cal_journal.proofs.JournalRuns.{IsJournalRun}
use Rattle.cal_journal.proofs.reading.read_journal.Given as goal

-- so many lines are read, and the rest has the others
abbrev pub invariant-loop-rest : goal.invariant-loop-rest
invariant-loop-rest l = IsJournalRun l.before l.bytes l.pending l.rest

abbrev pub decreases-loop-rest : goal.decreases-loop-rest
decreases-loop-rest l = length l.rest
