-- The cells of a row in the columns of an answer.
use Rattle.std.specs.Prelude.{◌≡◌, ℕ, ◌<◌, true, false, List, [], Option, None, Some, length}
use Rattle.std.specs.Prelude.{is_none, slice_get, slice_index_or, MatchOption}
use Rattle.std.specs.List.{list_any}
use Rattle.cal_value.specs.declared.record.Rec.{Rec}
use Rattle.cal_rowset.specs.Cells.{is_path, shown_values}
use Rattle.cal_rowset.specs.Filling.{HoldsSome, Shows, names, nth_cell}
use Rattle.cal_rowset.specs.declared.cell.Cell.{Cell}
use Rattle.cal_rowset.specs.declared.rowset.Column.{Column}
use Rattle.cal_rowset.specs.declared.shown_row.ShownRow.{ShownRow}

-- the column at a place of a list
abbrev pub nth_column : List Column → ℕ → Column
nth_column columns k = slice_index_or columns k (record { header = []; name = [] })

-- A name has no place where it is the hierarchy's, and else its own among these names.
abbrev pub IsPlaceOf : List (List ℕ) → List ℕ → Option ℕ → Type 0
IsPlaceOf names name place = MatchOption place (is_path name ≡ true)
    (λ p. (is_path name ≡ false) × (slice_get names p ≡ Some name))

-- the cell that a place means
abbrev pub cell_for : ShownRow → Option ℕ → Cell
cell_for s None = s.hierarchy
cell_for s (Some p) = nth_cell s.cells.cells.items p

-- the cells are those of these columns
pub record IsFor (s : ShownRow) (columns : List Column) : Type 0 where
  pub holds : HoldsSome s.cells
  pub counted : length s.places.items ≡ length columns
  pub places : (k : ℕ) → k < length columns → IsPlaceOf (names s.cells)
      (nth_column columns k).name (slice_index_or s.places.items k None)
  pub path : s.shows_path ≡ list_any is_none s.places.items

-- and show this row
pub record ShowsRow (s : ShownRow) (columns : List Column) (row : Rec) : Type 0 where
  pub is : IsFor s columns
  pub shows : (k : ℕ) → k < length columns → Shows
      (cell_for s (slice_index_or s.places.items k None))
      (shown_values row (nth_column columns k).name)
