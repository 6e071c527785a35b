use Rattle.cal_table_rows.proofs.MeantRows.{one_meaning}
use Rattle.cal_table_rows.proofs.laws.rows_have_one_meaning.Goals as goal

pub returns : goal.returns
returns c attributes script tree seat rows one other sound apart first second =
    one_meaning attributes script tree seat sound apart rows one other first second
