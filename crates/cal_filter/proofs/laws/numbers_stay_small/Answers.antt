use Rattle.cal_filter.proofs.SmallNumbers.{with_lets_small}
use Rattle.cal_filter.proofs.laws.numbers_stay_small.Goals as goal

pub returns : goal.returns
returns c = λ q r small. with_lets_small q.lets r small
