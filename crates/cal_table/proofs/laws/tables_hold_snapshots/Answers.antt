use Rattle.cal_table.proofs.Standing.{StandsFor-tally}
use Rattle.cal_table.proofs.laws.tables_hold_snapshots.Goals as goal

pub returns : goal.returns
returns c = StandsFor-tally
