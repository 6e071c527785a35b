-- What is known of a table's columns while its rows are added.
use Rattle.std.specs.Prelude.{ℕ, ◌&&◌, List, [], ◌∷◌, ◌++◌, drop, map, not, take}
use Rattle.cal_value.specs.declared.record.Rec.{Rec}
use Rattle.cal_rowset.specs.declared.rowset.Column.{Column}
use Rattle.cal_tabfmt.specs.Grid.{on_line, widest}
use Rattle.cal_tabfmt.specs.Table.{cell_text, has_cell, has_words}
use Rattle.cal_tabfmt.specs.declared.held.Held.{Held}
use Rattle.cal_tabfmt.specs.declared.shape.Shape.{Shape}

-- what the cells of a column hold, and the width of its widest text
abbrev pub held : List Rec → Column → Held
held rows column = record {
  width = widest (on_line column.header ∷ map (λ row. cell_text row column) rows);
  some = has_cell rows column;
  words = has_words rows column;
}

-- the same while a row is added: the columns before the k-th have its cells already
abbrev pub held_before : List Rec → Rec → List Column → ℕ → List Held
held_before rows row columns k =
    map (held (rows ++ row ∷ [])) (take k columns) ++ map (held rows) (drop k columns)

-- the column of which this is known
abbrev pub shape_of : Held → Shape
shape_of h = record { width = h.width; right = h.some && not h.words }
