use Rattle.std.specs.Prelude.{ℕ, Bool, true, false, ◌&&◌, List, [], ◌∷◌, map, not}
use Rattle.std.specs.List.{list_any}
use Rattle.cal_value.specs.declared.record.Rec.{Rec}
use Rattle.cal_rowset.specs.Cells.{content, joined_texts, shown_values}
use Rattle.cal_rowset.specs.Filling.{is_nothing}
use Rattle.cal_rowset.specs.declared.cell.Content.{Content}
use Rattle.cal_rowset.specs.declared.cell.Content.TheVariants.{Words}
use Rattle.cal_rowset.specs.declared.rowset.Column.{Column}
use Rattle.cal_rowset.specs.declared.rowset.Rowset.{Rowset}
use Rattle.cal_tabfmt.specs.Grid.{grid, on_line}

-- whether a cell holds something else than one number
abbrev pub is_words : Content → Bool
is_words Words = true
is_words _ = false

-- whether some cell of a column is there, and whether some holds words
abbrev pub has_cell : List Rec → Column → Bool
has_cell rows column = list_any (λ row. not (is_nothing (content row column.name))) rows

abbrev pub has_words : List Rec → Column → Bool
has_words rows column = list_any (λ row. is_words (content row column.name)) rows

-- A column with a cell that is there is right-aligned where all of those are single numbers.
abbrev pub is_right : List Rec → Column → Bool
is_right rows column = has_cell rows column && not (has_words rows column)

-- the line of headers
abbrev pub header_line : List Column → List (List ℕ)
header_line columns = map (λ column. on_line column.header) columns

-- the text of a cell on a line, which is empty where the cell is absent
abbrev pub cell_text : Rec → Column → List ℕ
cell_text row column = on_line (joined_texts (shown_values row column.name))

-- the line of a row
abbrev pub row_line : List Column → Rec → List (List ℕ)
row_line columns row = map (cell_text row) columns

-- a line of headers and a line for each row (Giltmoth's layout); nothing without columns
abbrev pub table_lines : List Column → List Rec → List ℕ
table_lines [] rows = []
table_lines (column ∷ columns) rows =
    let shown = column ∷ columns in
    grid (map (is_right rows) shown) (header_line shown ∷ map (row_line shown) rows)

-- the table of an answer
abbrev pub table : Rowset → List ℕ
table answer = table_lines answer.columns answer.rows.rows
