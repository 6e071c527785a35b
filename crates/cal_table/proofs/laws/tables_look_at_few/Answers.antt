use Rattle.cal_table.proofs.Looked.{table_of-looked}
use Rattle.cal_table.proofs.laws.tables_look_at_few.Goals as goal

pub returns : goal.returns
returns c = table_of-looked
