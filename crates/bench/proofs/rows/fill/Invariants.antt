use Rattle.cal_once.specs.Seats.{IsSeatOf}
use Rattle.bench.proofs.rows.fill.Given as goal

abbrev pub invariant-loop-attr : goal.invariant-loop-attr
invariant-loop-attr l = IsSeatOf l.rows l.seat
