use Rattle.std.proofs.Common.{◌≡◌, ℕ, ◌<◌, length, get_or, slice_get, Some}
use Rattle.cal_rowset.specs.Showing.{nth_column}
use Rattle.cal_jsonfmt.proofs.keys.places.Given as goal

-- the places so far
abbrev pub invariant-loop-column : goal.invariant-loop-column
invariant-loop-column l = record {
  counted : length l.places.items ≡ l.column-index;
  header : (k : ℕ) → k < l.column-index
      → slice_get l.names (get_or l.places.items k 0) ≡ Some (nth_column l.columns k).header;
}
