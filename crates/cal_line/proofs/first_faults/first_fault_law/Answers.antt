use Rattle.cal_line.proofs.FirstFaults.{has_first, falls_whole, one_first, makes}
use Rattle.cal_line.proofs.first_faults.first_fault_law.Goals as goal

pub returns-clause-made : goal.returns-clause-made
returns-clause-made g c = λ step start lines. (
  λ made line kind fault. let falls = falls_whole step start lines line kind fault in let is = made.1 in absurd cc,
  makes step start lines,
)

pub returns-clause-fault : goal.returns-clause-fault
returns-clause-fault g c = λ step start lines kind. (
  has_first step start lines kind,
  λ fault. falls_whole step start lines fault.0 kind fault.1,
)

pub returns-clause-one : goal.returns-clause-one
returns-clause-one g c = one_first
