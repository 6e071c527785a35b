use Rattle.std.proofs.Common.{arith}
use Rattle.cal_traces.proofs.PartSums.{part_sums}
use Rattle.cal_traces.proofs.RunNames.{shots-small}
use Rattle.cal_traces.proofs.Walks.{snapshots_shots}
use Rattle.cal_valid.proofs.Runnable.{valid_runnable}
use Rattle.cal_run.specs.Runs.{snapshots}
use Rattle.cal_traces.proofs.laws.limits_law.Goals as goal

pub returns-clause-few : goal.returns-clause-few
returns-clause-few c = λ script journal channel valid.
    let few = (snapshots_shots script (valid_runnable script valid) journal channel).few in
    omega (arith, few)

pub returns-clause-small : goal.returns-clause-small
returns-clause-small c = λ script journal channel valid. shots-small script
    (snapshots script journal channel)
    (snapshots_shots script (valid_runnable script valid) journal channel).shots

pub returns-clause-sums : goal.returns-clause-sums
returns-clause-sums c = part_sums
