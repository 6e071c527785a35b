use Rattle.std.proofs.Common.{ap, ◌∙◌, sym, subst, Some}
use Rattle.crossbeam_channel.specs.Claims.{view}
use Rattle.cal_mail.specs.Rule.{MayFollow}
use Rattle.cal_mail.proofs.Steps.{pushes}
use Rattle.cal_mail.proofs.ends.post.Goals as goal

pub send_as-requires-clause-rule : goal.send_as-requires-clause-rule
send_as-requires-clause-rule g c =
    let kept = c.loop.invariant in (
      pushes g.L.SendLaw.may_send _ c.loop.pass.id _ c.loop.mail (ap (λ v. v.live) kept.3 ∙ c.requires.live)
          (ap (λ v. v.sender) kept.3 ∙ c.requires.own ∙ ap (λ m. Some m.sender) (sym kept.4))
          (subst (λ v. MayFollow g.L.SendLaw.may_send v.sent c.loop.mail.part) (sym kept.3)
          (subst (λ m. MayFollow g.L.SendLaw.may_send (view c.args.pass.now).sent m.part) (sym kept.4) c.requires.lawful)),
      λ items views k at. tt,
    )
