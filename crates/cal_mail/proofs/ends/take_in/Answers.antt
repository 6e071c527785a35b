use Rattle.cal_mail.proofs.Steps.{merges}
use Rattle.cal_mail.proofs.ends.take_in.Goals as goal

pub absorb-requires-clause-rule : goal.absorb-requires-clause-rule
absorb-requires-clause-rule g c =
    merges g.L.SendLaw.may_send c.args.pass.now.id _ c.args.other.id _ c.requires.live.0 c.requires.collects c.requires.live.1
