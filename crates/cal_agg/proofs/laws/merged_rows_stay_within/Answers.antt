use Rattle.cal_agg.specs.RowLimits.{RowIsWithin-merged, RowIsWithin-room}
use Rattle.cal_agg.proofs.laws.merged_rows_stay_within.Goals as goal

pub returns-clause-merged : goal.returns-clause-merged
returns-clause-merged c = RowIsWithin-merged

pub returns-clause-room : goal.returns-clause-room
returns-clause-room c = RowIsWithin-room
