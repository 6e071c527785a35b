use Rattle.std.proofs.Common.{[], ◌∷◌, ◌++◌, ap, sym, ◌∙◌, subst}
use Rattle.cal_mail.specs.Ends.{AreEndedOf, mailbox_of}
use Rattle.tests_collect.proofs.MailEnded.{two_ended}
use Rattle.tests_collect.proofs.mail_rows.in_turn.Goals as goal

pub finish-requires-clause-ended : goal.finish-requires-clause-ended
finish-requires-clause-ended g c =
    let opened = c.in_ok-senders in
    let one = c.give.result in
    let two = c.give-2.result in
    subst (λ m. AreEndedOf m c.push-2.new.self.items) (sym c.collect-collector.ensures.stays.0)
    (two_ended (mailbox_of opened.collector) opened.senders.items c.pop.new.self.items c.pop-2.new.self.items
    c.in-Some-pop.first c.in-Some.second one two c.push-2.new.self.items
    opened.ensures.senders.0 opened.ensures.senders.1 c.in-Some.ensures.items c.in-Some-pop.ensures.items
    c.give.ensures.ended c.give-2.ensures.ended
    (c.in_ok-push-2.ensures.items ∙ ap (λ l. l ++ two ∷ []) (c.in_ok-push.ensures.items
    ∙ ap (λ l. l ++ one ∷ []) c.in_ok-ended.ensures.items)))
