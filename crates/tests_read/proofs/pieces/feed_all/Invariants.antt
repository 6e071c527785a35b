use Rattle.cal_read.specs.Owned.{IsOwnedReady}
use Rattle.tests_read.proofs.pieces.feed_all.Given as goal

abbrev pub invariant-loop-piece : goal.invariant-loop-piece
invariant-loop-piece l = IsOwnedReady l.reader
