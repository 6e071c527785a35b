use Rattle.cal_channel.proofs.LawLemmas.{counts-later, taken-later}
use Rattle.cal_channel.proofs.laws.taken_for_good.Goals as goal

pub returns-clause-channel : goal.returns-clause-channel
returns-clause-channel c attributes script tree old new channel taken unflushed more =
    taken-later attributes script tree old new more channel taken unflushed

pub returns-clause-part : goal.returns-clause-part
returns-clause-part c attributes script tree old new part recs more =
    counts-later attributes script tree old new more recs part
