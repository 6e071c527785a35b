use Rattle.cal_plog.specs.Seats.{IsLogSeat}
use Rattle.tests_hand.proofs.histories.reads.Given as goal

abbrev pub invariant-loop-place : goal.invariant-loop-place
invariant-loop-place l = IsLogSeat l.log l.seat
