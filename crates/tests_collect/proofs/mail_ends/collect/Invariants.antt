use Rattle.std.proofs.Common.{◌≡◌}
use Rattle.cal_mail.specs.Ends.{mailbox_of, senders_of}
use Rattle.tests_collect.proofs.mail_ends.collect.Given as goal

-- it is still the collector that it was
abbrev pub invariant-loop : goal.invariant-loop
invariant-loop g l = record {
  next : (goal.iterator-loop g).can_next l.iterator';
  finite : (goal.iterator-loop g).is_finite l.iterator';
  mailbox : mailbox_of l.collector ≡ mailbox_of l.initial.collector;
  senders : senders_of l.collector ≡ senders_of l.initial.collector;
}
