use Rattle.std.proofs.Common.{ap, sym, ◌∙◌}
use Rattle.crossbeam_channel.specs.Claims.{view}
use Rattle.cal_mail.specs.Messages.{ended_with, parts_among}
use Rattle.cal_mail.proofs.Sending.{ended-last, parts_among-last}
use Rattle.cal_mail.proofs.sender.Sender.end.Goals as goal

pub invariant_of-result : goal.invariant_of-result
invariant_of-result g c =
    let before = c.args.self in
    let posted = c.post.ensures.posted in
    record {
      live = ap (λ v. v.live) posted ∙ before.live;
      ended = ap (λ v. v.sent) posted ∙ ended-last (view before.pass).sent before.going
          ∙ ap (λ v. ended_with (parts_among v.sent)) (sym posted);
    }

pub returns-clause-sent : goal.returns-clause-sent
returns-clause-sent g c = ap (λ v. parts_among v.sent) c.post.ensures.posted
    ∙ parts_among-last (view c.args.self.pass).sent
