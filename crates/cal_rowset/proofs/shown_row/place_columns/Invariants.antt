use Rattle.std.proofs.Common.{◌≡◌, ℕ, ◌<◌, [], None, length, get_or}
use Rattle.cal_rowset.specs.Filling.{Holds, names}
use Rattle.cal_rowset.specs.Showing.{IsPlaceOf, nth_column}
use Rattle.cal_rowset.specs.Trails.{IsTrail}
use Rattle.cal_rowset.proofs.shown_row.place_columns.Given as goal

-- the columns so far have their places
abbrev pub invariant-loop-column : goal.invariant-loop-column
invariant-loop-column l = record {
  holds : Holds l.cells [];
  trail : IsTrail l.cells [];
  counted : length l.places.items ≡ l.column-index;
  placed : (k : ℕ) → k < l.column-index → IsPlaceOf (names l.cells) (nth_column l.columns k).name (get_or l.places.items k None);
}
