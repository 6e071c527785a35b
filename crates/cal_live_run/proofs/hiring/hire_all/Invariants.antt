use Rattle.std.proofs.Common.{◌≡◌, ◌++◌, length}
use Rattle.std.specs.Vec.Iter.{into_iter_items, into_iter_len}
use Rattle.cal_live_run.specs.Hired.{AreHiredBelow}
use Rattle.cal_mail.specs.Ends.{mailbox_of}
use Rattle.cal_thread.specs.Hiring.{HasHired}
use Rattle.cal_live_run.proofs.hiring.hire_all.Given as goal

-- the threads of the senders so far are hired
abbrev pub invariant-loop-sender : goal.invariant-loop-sender
invariant-loop-sender g l = record {
  whole : l.yielded ++ into_iter_items l.sender-iterator ≡ l.fn.senders.items;
  left : into_iter_len l.sender-iterator ≡ length (into_iter_items l.sender-iterator);
  number : l.number ≡ length l.yielded;
  hired : AreHiredBelow g.S.Shapes.shapes l.run (mailbox_of l._collector.collector)
      l.runners.items (length l.yielded);
  first : HasHired l.run.shared.common l.first.tree l.first.log (length l.yielded);
}
