use Rattle.cal_table_rows.proofs.Fronts.{run_names}
use Rattle.cal_table_rows.proofs.laws.names_of_runs_are_apart.Goals as goal

pub returns : goal.returns
returns c = run_names
