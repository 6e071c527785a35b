use Rattle.cal_mail.proofs.Steps.{learns}
use Rattle.cal_mail.proofs.ends.settle.Goals as goal

pub learn_as-requires-clause-rule : goal.learn_as-requires-clause-rule
learn_as-requires-clause-rule g c = learns g.L.SendLaw.may_send c.args.pass.now.id _ c.requires.live
