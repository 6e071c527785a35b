use Rattle.std.proofs.Common.{◌≡◌, ◌+◌}
use Rattle.cal_once.specs.Seats.{view}
use Rattle.cal_plog.specs.History.{OwnBefore}
use Rattle.cal_plog.specs.Seats.{IsLogSeat, slots_of}
use Rattle.tests_hand.proofs.histories.wrong_line.Given as goal

-- all that the seat appended are of lines before this one
abbrev pub invariant-loop-line : goal.invariant-loop-line
invariant-loop-line l = record {
  reader : IsLogSeat l.log l.reader;
  seat : IsLogSeat l.log l.seat;
  thread : (view l.seat).number ≡ l.thread + 1;
  own : OwnBefore (slots_of l.log) (view l.seat) l.line;
}
