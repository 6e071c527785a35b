use Rattle.cal_channel.proofs.LawLemmas.{part-back, part-counts, part-left}
use Rattle.cal_channel.proofs.laws.parts_of_channels.Goals as goal

pub returns-clause-part : goal.returns-clause-part
returns-clause-part c = part-counts

pub returns-clause-left : goal.returns-clause-left
returns-clause-left c = part-left

pub returns-clause-back : goal.returns-clause-back
returns-clause-back c = part-back
