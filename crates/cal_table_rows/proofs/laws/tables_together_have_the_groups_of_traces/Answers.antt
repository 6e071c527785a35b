use Rattle.cal_table_rows.proofs.Together.{together_groups}
use Rattle.cal_table_rows.proofs.laws.tables_together_have_the_groups_of_traces.Goals as goal

pub returns : goal.returns
returns c = λ attributes channel trace parts keyed is sums order all.
    together_groups attributes channel trace is sums parts keyed order all
