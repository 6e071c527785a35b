-- A line as it is shown.
use Rattle.std.specs.Prelude.{◌≡◌, true, false, List, [], Option, MatchOption}
use Rattle.cal_value.specs.declared.record.Rec.{Rec}
use Rattle.cal_rowset.specs.Showing.{IsFor, ShowsRow}
use Rattle.cal_rowset.specs.declared.rowset.Column.{Column}
use Rattle.cal_treefmt.specs.Lines as lines
use Rattle.cal_treefmt.specs.declared.shown_line.ShownLine.{ShownLine}

-- the cells are those of these columns
pub record IsForLines (columns : List Column) (l : ShownLine) : Type 0 where
  pub cells : IsFor l.cells columns
  pub empty : l.empty ≡ []

-- and show this row, if there is one
pub record ShowsBeside (columns : List Column) (l : ShownLine) (row : Option Rec) : Type 0 where
  pub cells : IsFor l.cells columns
  pub shows : MatchOption row (l.has_row ≡ false)
      (λ r. (l.has_row ≡ true) × ShowsRow l.cells columns r)

-- a line is shown
pub record ShowsLine (columns : List Column) (l : ShownLine) (line : lines.Line) : Type 0 where
  pub label : l.label ≡ line.label
  pub beside : ShowsBeside columns l line.row
  pub empty : l.empty ≡ []
