use Rattle.std.proofs.Common.{◌≡◌, ◌≤◌, drop, length, map}
use Rattle.cal_rowset.specs.NumberedRows.{in_order, meant}
use Rattle.cal_engine.specs.Sorting.{sorted_rows}
use Rattle.cal_engine.proofs.snapshot_order.sorted_places.Given as goal

-- the rows are sorted by the keys from a place on
abbrev pub invariant-loop-left : goal.invariant-loop-left
invariant-loop-left l = record {
  left : l.left ≤ length l.keys;
  sorted : map (meant l.context) (in_order l.rows l.places.items)
      ≡ sorted_rows (drop l.left l.keys) (map (meant l.context) l.rows);
}

abbrev pub decreases-loop-left : goal.decreases-loop-left
decreases-loop-left l = l.left
