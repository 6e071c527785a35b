use Rattle.std.proofs.Common.{◌≡◌, ◌++◌, length}
use Rattle.std.specs.Vec.Iter.{into_iter_items, into_iter_len}
use Rattle.cal_collect.specs.Collecting.{senders_in}
use Rattle.cal_collect.proofs.open.part_senders.Given as goal

-- all are the senders so far
abbrev pub invariant-loop-sender : goal.invariant-loop-sender
invariant-loop-sender g l = record {
  whole : senders_in l.all.items ++ into_iter_items l.sender-iterator ≡ l.fn.senders.items;
  left : into_iter_len l.sender-iterator ≡ length (into_iter_items l.sender-iterator);
}
