use Rattle.cal_once.specs.Seats.{IsSeatOf}
use Rattle.tests_rows.proofs.tables.put_many.Given as goal

abbrev pub invariant-loop-attr : goal.invariant-loop-attr
invariant-loop-attr l = IsSeatOf l.rows l.worker.seat
