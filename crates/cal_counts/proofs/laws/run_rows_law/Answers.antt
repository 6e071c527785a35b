use Rattle.cal_counts.proofs.RowLemmas.{rows-split}
use Rattle.cal_counts.proofs.laws.run_rows_law.Goals as goal

pub returns : goal.returns
returns c = rows-split
