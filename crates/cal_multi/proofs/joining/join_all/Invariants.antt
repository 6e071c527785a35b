use Rattle.std.proofs.Common.{◌≡◌, ◌++◌, length}
use Rattle.std.specs.Vec.Iter.{into_iter_items, into_iter_len}
use Rattle.cal_multi.specs.Shares.{HaveJoined, bytes_of}
use Rattle.cal_multi.proofs.joining.join_all.Given as goal

-- the files so far are joined
abbrev pub invariant-loop-share : goal.invariant-loop-share
invariant-loop-share l = record {
  whole : l.yielded ++ into_iter_items l.share-iterator ≡ l.fn.shares.items;
  left : into_iter_len l.share-iterator ≡ length (into_iter_items l.share-iterator);
  number : l.place ≡ length l.yielded;
  joined : HaveJoined l.query (bytes_of l.yielded) l.joined;
}
