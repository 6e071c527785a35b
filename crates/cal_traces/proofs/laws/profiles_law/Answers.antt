use Rattle.cal_traces.proofs.Traces.{profiles_answer}
use Rattle.cal_traces.proofs.laws.profiles_law.Goals as goal

pub returns : goal.returns
returns c = λ script journal channel q valid there coarser.
    profiles_answer script valid journal channel q there coarser
