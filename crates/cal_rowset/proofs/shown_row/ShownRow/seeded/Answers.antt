use Rattle.std.proofs.Common.{refl}
use Rattle.cal_rowset.proofs.shown_row.ShownRow.seeded.Goals as goal

pub returns-clause-empty : goal.returns-clause-empty
returns-clause-empty c = (c.in_ok-place_columns.ensures.trail, refl, refl)
