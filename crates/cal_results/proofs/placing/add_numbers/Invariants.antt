use Rattle.std.proofs.Common.{take}
use Rattle.cal_results.specs.Tracing.{AreNumbersOf}
use Rattle.cal_results.proofs.placing.add_numbers.Given as goal

-- the nodes so far have their numbers in the list
abbrev pub invariant-loop-node : goal.invariant-loop-node
invariant-loop-node l = AreNumbersOf l.nodes l.numbers.items (take l.node-index l.refs)
