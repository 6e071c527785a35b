use Rattle.std.proofs.Common.{arith}
use Rattle.cal_engine.proofs.gate.Gate.new.Goals as goal

pub returns-clause-ready : goal.returns-clause-ready
returns-clause-ready c = record {
  filter = c.in_ok-filter.ensures.ready;
  small = λ n l. absurd (omega (arith, l));
  looked = c.in_ok-looked.ensures c.new.new.context;
}
