use Rattle.std.proofs.Common.{sym}
use Rattle.cal_run.proofs.PlacedNumbers.{ValuesStand-placed}
use Rattle.cal_run.proofs.numbers.number_values.Goals as goal

pub returns-clause-numbered : goal.returns-clause-numbered
returns-clause-numbered c =
    rw (c.in_ok-placed.ensures, c.as_slice.ensures.value, c.parts.ensures.values)
    (ValuesStand-placed _ _ _ _ c.in_ok-numbers.ensures.numbered c.parts.ensures.within)
