use Rattle.cal_nodes.proofs.Numbering.{can_later, numbered_later}
use Rattle.cal_nodes.proofs.laws.numbers_stay_numbered.Goals as goal

pub returns-clause-numbered : goal.returns-clause-numbered
returns-clause-numbered c tree was is old new numbers more grows a =
    numbered_later tree was is more old new numbers grows a

pub returns-clause-can : goal.returns-clause-can
returns-clause-can c tree was is old new node more grows can = can_later tree was is more old new
    node grows can
