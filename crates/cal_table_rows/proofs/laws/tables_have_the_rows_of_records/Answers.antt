use Rattle.cal_table_rows.proofs.MeantRows.{counted_rows}
use Rattle.cal_table_rows.proofs.laws.tables_have_the_rows_of_records.Goals as goal

pub returns : goal.returns
returns c = counted_rows
