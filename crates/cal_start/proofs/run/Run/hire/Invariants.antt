use Rattle.cal_start.proofs.ManyRunners.{AreHiredBelow}
use Rattle.cal_start.specs.FirstSeats.{HaveHired}
use Rattle.cal_start.proofs.run.Run.hire.Given as goal

-- the threads before this number are hired
abbrev pub invariant-loop-number : goal.invariant-loop-number
invariant-loop-number g l = record {
  hired : AreHiredBelow l.self l.runners.items l.number;
  first : HaveHired l.self l.first l.number;
}
