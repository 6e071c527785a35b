use Rattle.std.proofs.Common.{◌≡◌, false}
use Rattle.cal_mail.specs.Ends.{mailbox_of, senders_of}
use Rattle.cal_collect.specs.Collecting.{HasMerged}
use Rattle.cal_collect.proofs.collector.PartCollector.collect.Given as goal

-- unless a merge was refused, all that came so far is merged
abbrev pub invariant-loop : goal.invariant-loop
invariant-loop g l = record {
  next : (goal.iterator-loop g).can_next l.iterator';
  finite : (goal.iterator-loop g).is_finite l.iterator';
  mailbox : mailbox_of l.self.collector ≡ mailbox_of l.initial.self.collector;
  senders : senders_of l.self.collector ≡ senders_of l.initial.self.collector;
  merged : l.refused ≡ false → HasMerged g.S.Shapes.shapes l.self;
}
