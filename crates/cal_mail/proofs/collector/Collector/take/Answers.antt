use Rattle.std.proofs.Common.{length, slice_index_or, true, false, length-set, ap, sym, ◌∙◌, subst}
use Rattle.crossbeam_channel.specs.Claims.{IsSeatAt, view}
use Rattle.cal_mail.specs.Messages.{has_last, of, parts_in}
use Rattle.cal_mail.specs.Rule.{MayFollow}
use Rattle.cal_mail.proofs.Sending.{came-noted, came-stays, parts_in-last, parts_in-part, parts_of-parts_in}
use Rattle.cal_mail.proofs.collector.Collector.take.Goals as goal

pub invariant_of-self : goal.invariant_of-self
invariant_of-self g c =
    let before = c.args.self.now in
    let got = c.get-sender.ensures.got in
    record {
      at = subst (λ m. IsSeatAt m c.get-sender.new.pass) before.one_channel c.get-sender.ensures.at;
      one_channel = before.one_channel;
      live = ap (λ v. v.live) got ∙ before.live;
      collects = ap (λ v. v.sender) got ∙ before.collects;
      long = before.long ∙ ap (λ v. length v.others) (sym got);
      came = λ number is. ap (λ v. has_last (of number v.got)) got
          ∙ came-stays number (view before.pass).got c.get-sender.result (before.came number is);
    }

pub invariant_of-self-in-None : goal.invariant_of-self-in-None
invariant_of-self-in-None g c =
    let before = c.args.self.now in
    let got = c.get-sender.ensures.got in
    let mail = c.get-sender.result in
    record {
      at = subst (λ m. IsSeatAt m c.get-sender.new.pass) before.one_channel c.get-sender.ensures.at;
      one_channel = before.one_channel;
      live = ap (λ v. v.live) got ∙ before.live;
      collects = ap (λ v. v.sender) got ∙ before.collects;
      long = ap length c.note.ensures ∙ length-set before.last.came.items mail.sender true ∙ before.long
          ∙ ap (λ v. length v.others) (sym got);
      came = λ number is. ap (λ v. has_last (of number v.got)) got
          ∙ came-noted before.last.came.items (view before.pass).got mail c.in-None.is before.came number
          (ap (λ l. slice_index_or l number false) (sym c.note.ensures) ∙ is);
    }

pub returns-in-Some-clause-received : goal.returns-in-Some-clause-received
returns-in-Some-clause-received g c = ap (λ v. parts_in v.got) c.get-sender.ensures.got
    ∙ parts_in-part (view c.args.self.now.pass).got c.get-sender.result c.in-Some.part c.in-Some.is

pub returns-in-Some-clause-lawful : goal.returns-in-Some-clause-lawful
returns-in-Some-clause-lawful g c =
    let got = (view c.args.self.now.pass).got in
    let sender = c.get-sender.result.sender in
    let may = g.L.SendLaw.may_send in
    let tells = c.get-sender.ensures.tells in (
      tells.0,
      subst (λ parts. may parts c.in-Some.part) (sym (parts_of-parts_in sender got))
          (subst (λ part. MayFollow may (of sender got) part) c.in-Some.is tells.1),
    )

pub returns-in-None-clause-last : goal.returns-in-None-clause-last
returns-in-None-clause-last g c = ap (λ v. parts_in v.got) c.get-sender.ensures.got
    ∙ parts_in-last (view c.args.self.now.pass).got c.get-sender.result c.in-None.is
