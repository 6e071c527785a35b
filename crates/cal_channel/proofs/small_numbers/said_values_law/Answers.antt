use Rattle.cal_channel.proofs.SaidLemmas.{said-after, said-behind, said-start, said-thread}
use Rattle.cal_channel.proofs.small_numbers.said_values_law.Goals as goal
use Rattle.cal_run.proofs.FitLemmas.{process-fits}

pub returns-clause-start : goal.returns-clause-start
returns-clause-start c = said-start

pub returns-clause-line : goal.returns-clause-line
returns-clause-line c = said-after

pub returns-clause-lines : goal.returns-clause-lines
returns-clause-lines c = said-behind

pub returns-clause-thread : goal.returns-clause-thread
returns-clause-thread c = said-thread

pub returns-clause-process : goal.returns-clause-process
returns-clause-process c script history seen runnable = process-fits script runnable history seen
