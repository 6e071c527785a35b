use Rattle.cal_agg.proofs.Ends.{least_is, greatest_is}
use Rattle.cal_agg.proofs.laws.ends_are_ends.Goals as goal

pub returns-clause-least : goal.returns-clause-least
returns-clause-least c = least_is

pub returns-clause-greatest : goal.returns-clause-greatest
returns-clause-greatest c = greatest_is
