use Rattle.cal_nodes.proofs.Numbering.{stands_for}
use Rattle.cal_nodes.proofs.laws.numbers_stand.Goals as goal

pub returns : goal.returns
returns c tree seat t numbers node n path is a e at = stands_for tree seat is t numbers node n path
    a e at
