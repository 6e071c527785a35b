use Rattle.cal_line.proofs.EscapeSteps.{Writes}
use Rattle.cal_line.proofs.escaping.append_escaped.Given as goal

abbrev pub invariant-loop-place : goal.invariant-loop-place
invariant-loop-place l = Writes l.text l.initial.out l.out l.run l.place
