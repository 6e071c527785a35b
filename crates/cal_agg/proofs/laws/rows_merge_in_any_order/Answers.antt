use Rattle.cal_agg.specs.RowLaws.{merged_row-comm, merged_row-assoc}
use Rattle.cal_agg.proofs.laws.rows_merge_in_any_order.Goals as goal

pub returns-clause-commutative : goal.returns-clause-commutative
returns-clause-commutative c = merged_row-comm

pub returns-clause-associative : goal.returns-clause-associative
returns-clause-associative c = merged_row-assoc
