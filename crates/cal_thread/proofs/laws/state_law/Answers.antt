use Rattle.cal_thread.proofs.ThreadLemmas.{own-after, shared-after}
use Rattle.cal_thread.proofs.laws.state_law.Goals as goal

pub returns-clause-shared : goal.returns-clause-shared
returns-clause-shared c = shared-after

pub returns-clause-own : goal.returns-clause-own
returns-clause-own c = own-after
