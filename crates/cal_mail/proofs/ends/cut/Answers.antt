use Rattle.cal_mail.proofs.Steps.{forks}
use Rattle.cal_mail.proofs.ends.cut.Goals as goal

pub another-requires-clause-rule : goal.another-requires-clause-rule
another-requires-clause-rule g c = forks g.L.SendLaw.may_send c.args.pass.now.id _ c.requires.live c.requires.collects
