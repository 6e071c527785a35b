use Rattle.cal_once.specs.Seats.{IsSeatOf}
use Rattle.tests_rows.proofs.tables.wrong_put.Given as goal

abbrev pub invariant-loop-row : goal.invariant-loop-row
invariant-loop-row l = IsSeatOf l.rows l.seat
