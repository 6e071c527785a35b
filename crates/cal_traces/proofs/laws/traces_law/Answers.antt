use Rattle.cal_traces.proofs.Traces.{run_trace}
use Rattle.cal_traces.proofs.laws.traces_law.Goals as goal

pub returns : goal.returns
returns c = λ script journal channel valid there. run_trace script valid journal channel there
