use Rattle.std.proofs.Common.{ap, ◌∙◌}
use Rattle.cal_mail.proofs.Steps.{pops}
use Rattle.cal_mail.proofs.ends.get.Goals as goal

pub recv_as-requires-clause-rule : goal.recv_as-requires-clause-rule
recv_as-requires-clause-rule g c =
    let kept = c.loop.invariant in (
      pops g.L.SendLaw.may_send c.loop.pass.id _ (ap (λ v. v.live) kept.3 ∙ c.requires.live) (ap (λ v. v.sender) kept.3 ∙ c.requires.collects),
      λ items views k at. tt,
    )
