use Rattle.std.proofs.Common.{Some, map, ap, sym, ◌∙◌}
use Rattle.crossbeam_channel.specs.Claims.{view}
use Rattle.cal_mail.specs.Messages.{parts_among}
use Rattle.cal_mail.proofs.Sending.{going-more, parts_among-more}
use Rattle.cal_mail.proofs.sender.Sender.send.Goals as goal

pub invariant_of-self : goal.invariant_of-self
invariant_of-self g c =
    let before = c.args.self.now in
    let posted = c.post.ensures.posted in
    record {
      at = c.post.ensures.at;
      live = ap (λ v. v.live) posted ∙ before.live;
      own = ap (λ v. v.sender) posted ∙ before.own;
      going = ap (λ v. v.sent) posted ∙ going-more (view before.pass).sent c.args.part before.going
          ∙ ap (λ v. map Some (parts_among v.sent)) (sym posted);
    }

pub returns-clause-sent : goal.returns-clause-sent
returns-clause-sent g c = ap (λ v. parts_among v.sent) c.post.ensures.posted
    ∙ parts_among-more (view c.args.self.now.pass).sent c.args.part
