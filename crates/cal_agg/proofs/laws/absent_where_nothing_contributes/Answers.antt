use Rattle.cal_agg.proofs.Ends.{least_absent, greatest_absent, sum_absent}
use Rattle.cal_agg.proofs.laws.absent_where_nothing_contributes.Goals as goal

pub returns-clause-least : goal.returns-clause-least
returns-clause-least c = least_absent

pub returns-clause-greatest : goal.returns-clause-greatest
returns-clause-greatest c = greatest_absent

pub returns-clause-sum : goal.returns-clause-sum
returns-clause-sum c = sum_absent
