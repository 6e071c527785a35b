use Rattle.std.proofs.Common.{◌≡◌, ◌++◌, length}
use Rattle.std.specs.Vec.Iter.{into_iter_items, into_iter_len}
use Rattle.cal_engine.specs.Finishing.{AreGroupParts, GroupLists, rows_by}
use Rattle.cal_engine.proofs.finishing.rows.Given as goal

-- the rows of the keys so far
abbrev pub invariant-loop-key : goal.invariant-loop-key
invariant-loop-key l = record {
  whole : l.yielded ++ into_iter_items l.key-iterator ≡ l.fn.keys.items;
  left : into_iter_len l.key-iterator ≡ length (into_iter_items l.key-iterator);
  counted : length l.rows.items ≡ length l.yielded;
  rows : (lists : GroupLists) → AreGroupParts l.aggs lists l.fn.keys.items l.parts l.all l.below
      → l.rows.items ≡ rows_by l.aggs lists l.yielded;
}
