use Rattle.cal_trigger.proofs.Watching.{answers_through}
use Rattle.cal_trigger.proofs.laws.conditions_in_front_law.Goals as goal

pub returns : goal.returns
returns c = λ conds q rows bare. answers_through conds q bare rows
