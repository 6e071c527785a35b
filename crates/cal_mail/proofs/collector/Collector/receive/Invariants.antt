use Rattle.std.proofs.Common.{◌≡◌}
use Rattle.cal_mail.specs.Ends.{mailbox_of, received_by, senders_of}
use Rattle.cal_mail.proofs.collector.Collector.receive.Given as goal

-- no part came so far
abbrev pub invariant-loop : goal.invariant-loop
invariant-loop g l =
    (goal.iterator-loop g).can_next l.iterator' × (goal.iterator-loop g).is_finite l.iterator'
    × (received_by l.self ≡ received_by l.initial.self)
    × (mailbox_of l.self ≡ mailbox_of l.initial.self) × (senders_of l.self ≡ senders_of l.initial.self)
