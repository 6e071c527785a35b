use Rattle.std.proofs.Common.{rules}
use Rattle.cal_agg.specs.Shown.{least_of_added}
use Rattle.cal_agg.proofs.least.LeastKernel.value.Goals as goal

pub returns-in-Some-Some-clause-added : goal.returns-in-Some-Some-clause-added
returns-in-Some-Some-clause-added c = λ ns e. least_of_added _ ns _ e (search rules)
