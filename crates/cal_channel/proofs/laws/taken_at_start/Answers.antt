use Rattle.cal_channel.proofs.LawLemmas.{nothing-taken, started-taken}
use Rattle.cal_channel.proofs.laws.taken_at_start.Goals as goal

pub returns-clause-made : goal.returns-clause-made
returns-clause-made c = nothing-taken

pub returns-clause-started : goal.returns-clause-started
returns-clause-started c = started-taken
