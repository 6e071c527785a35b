-- The tree of an answer.
use Rattle.std.specs.Prelude.{ℕ, Bool, true, false, List, [], ◌∷◌, Option, None, Some, codes, map}
use Rattle.cal_value.specs.declared.record.Rec.{Rec}
use Rattle.cal_rowset.specs.declared.rowset.Column.{Column}
use Rattle.cal_rowset.specs.declared.rowset.Rowset.{Rowset}
use Rattle.cal_tabfmt.specs.Grid.{grid, on_line}
use Rattle.cal_tabfmt.specs.Table.{header_line, row_line}
use Rattle.cal_treefmt.specs.Columns.{columns_beside}
use Rattle.cal_treefmt.specs.Lines.{Line, tree_lines}

-- the texts beside a label: the cells of a row, or empty ones
abbrev pub texts_beside : List Column → Option Rec → List (List ℕ)
texts_beside columns (Some row) = row_line columns row
texts_beside columns None = map (λ column. []) columns

-- the texts of a line, and of the line of headers
abbrev pub line_texts : List Column → Line → List (List ℕ)
line_texts columns line = on_line line.label ∷ texts_beside columns line.row

abbrev pub header_texts : List Column → List (List ℕ)
header_texts columns = codes "Path" ∷ header_line columns

-- labels stand on the left, and the columns beside them are right-aligned
abbrev pub rights : List Column → List Bool
rights columns = false ∷ map (λ column. true) columns

abbrev pub tree_of : List Column → List Rec → List ℕ
tree_of columns rows =
    grid (rights columns) (header_texts columns ∷ map (line_texts columns) (tree_lines rows))

-- the tree of an answer (Giltmoth's layout)
abbrev pub tree : Rowset → List ℕ
tree answer =
    let rows = answer.rows.rows in
    tree_of (columns_beside rows answer.columns) rows
