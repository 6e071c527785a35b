use Rattle.std.proofs.Common.{◌≡◌}
use Rattle.cal_mail.specs.Ends.{mailbox_of_sender, number_of}
use Rattle.tests_collect.proofs.mail_ends.give.Given as goal

-- it is still the sender that it was
abbrev pub invariant-loop-part : goal.invariant-loop-part
invariant-loop-part g l = record {
  mailbox : mailbox_of_sender l.sender ≡ mailbox_of_sender l.initial.sender;
  number : number_of l.sender ≡ number_of l.initial.sender;
}
