use Rattle.std.proofs.Common.{◌≡◌}
use Rattle.cal_mail.specs.Ends.{mailbox_of_sender, number_of, sent_by}
use Rattle.cal_collect.specs.Parts.{snapshots_of, tables_for}
use Rattle.tests_collect.proofs.ends.give.Given as goal

-- it is still the sender that it was, and has sent a snapshot for each node so far
abbrev pub invariant-loop-node : goal.invariant-loop-node
invariant-loop-node g l = record {
  mailbox : mailbox_of_sender l.sender.sender ≡ mailbox_of_sender l.initial.sender.sender;
  number : number_of l.sender.sender ≡ number_of l.initial.sender.sender;
  sent : snapshots_of (tables_for 0 (sent_by l.sender.sender)) ≡ l.node-index;
}
