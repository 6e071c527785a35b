use Rattle.cal_read.specs.Owned.{IsOwnedReady}
use Rattle.tests_read.proofs.pieces.feed_bytes.Given as goal

abbrev pub invariant-loop-place : goal.invariant-loop-place
invariant-loop-place l = IsOwnedReady l.reader
