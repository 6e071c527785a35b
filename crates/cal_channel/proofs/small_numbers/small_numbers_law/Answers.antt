use Rattle.cal_channel.proofs.SaidLemmas.{can-take, small-behind}
use Rattle.cal_channel.proofs.small_numbers.small_numbers_law.Goals as goal

pub returns-clause-snapshot : goal.returns-clause-snapshot
returns-clause-snapshot c = small-behind

pub returns-clause-can : goal.returns-clause-can
returns-clause-can c = can-take
