use Rattle.cal_process.proofs.ScriptLemmas.{none-own, op-is, some-shared}
use Rattle.cal_process.proofs.laws.process_line_law.Goals as goal

pub returns-clause-own : goal.returns-clause-own
returns-clause-own c = none-own

pub returns-clause-shared : goal.returns-clause-shared
returns-clause-shared c = some-shared

pub returns-clause-there : goal.returns-clause-there
returns-clause-there c = op-is
