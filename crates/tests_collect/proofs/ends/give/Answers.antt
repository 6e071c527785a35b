use Rattle.std.proofs.Common.{◌+◌, ap, ◌∙◌}
use Rattle.cal_mail.specs.Ends.{sent_by}
use Rattle.cal_collect.specs.Parts.{part_of, snapshots_of, tables_for}
use Rattle.cal_collect.proofs.Sums.{count-snoc-here}
use Rattle.tests_collect.proofs.ends.give.Goals as goal

pub loop-node-preserved : goal.loop-node-preserved
loop-node-preserved g c =
    let at = c.loop-node.invariant in
    record {
      mailbox = c.hand.ensures.stays.0 ∙ at.mailbox;
      number = c.hand.ensures.stays.1 ∙ at.number;
      sent = ap (λ l. snapshots_of (tables_for 0 l)) c.hand.ensures.sent
          ∙ count-snoc-here (sent_by c.loop-node.sender.sender) (part_of 0 c.in-Ok.table)
          ∙ (λ i. at.sent i + c.in-Ok.ensures.one i);
    }
