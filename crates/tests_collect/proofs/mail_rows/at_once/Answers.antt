use Rattle.std.proofs.Common.{[], ◌∷◌, ◌++◌, ap, sym, ◌∙◌, subst}
use Rattle.cal_mail.specs.Ends.{AreEndedOf, mailbox_of}
use Rattle.tests_collect.proofs.MailEnded.{one_ended}
use Rattle.tests_collect.proofs.mail_rows.at_once.Goals as goal

pub finish-requires-clause-ended : goal.finish-requires-clause-ended
finish-requires-clause-ended g c =
    let opened = c.in_ok-senders in
    let one = c.join-one.result.0 in
    subst (λ m. AreEndedOf m c.push.new.self.items) (sym c.join-one.ensures.second.1)
    (one_ended (mailbox_of opened.collector) opened.senders.items c.pop.new.self.items c.in-Some.sender one
    c.push.new.self.items opened.ensures.senders.0 opened.ensures.senders.1 c.in-Some.ensures.items
    c.join-one.ensures.first
    (c.in_ok-push.ensures.items ∙ ap (λ l. l ++ one ∷ []) c.new-ended.ensures.items))
