use Rattle.std.specs.Prelude.{ℕ, List, [], ◌∷◌, ◌++◌, Option, None, Some, option_map, map}
use Rattle.std.specs.Prelude.{if◌then◌else◌}
use Rattle.std.specs.List.{filter_map, flat_map, join_with_byte}
use Rattle.cal_value.specs.declared.record.Rec.{Rec}
use Rattle.cal_line.specs.Escapes.{escaped}
use Rattle.cal_rowset.specs.Cells.{cell}
use Rattle.cal_rowset.specs.Names.{names_of}
use Rattle.cal_rowset.specs.declared.rowset.Column.{Column}
use Rattle.cal_rowset.specs.declared.rowset.Rowset.{Rowset}

-- A part `name=text`, both escaped as in a stream (Giltmoth's layout). No `/` is escaped, so the
-- text is the escaped texts of the values with `/` between them.
abbrev pub part : List ℕ → List ℕ → List ℕ
part header text = escaped header ++ 61 ∷ escaped text

-- the part of a row in a column, which is absent where the cell is
abbrev pub part_of : Rec → Column → Option (List ℕ)
part_of row column = option_map (part column.header) (cell row column.name)

-- a name as a column of its own
abbrev pub own_column : List ℕ → Column
own_column name = record { header = name; name = name }

-- the columns in which a row is shown: those of a list, or its own names
abbrev pub columns_of : Option (List Column) → Rec → List Column
columns_of (Some columns) row = columns
columns_of None row = map own_column (names_of row)

-- the parts of a row that are there, with commas between them
abbrev pub expand_line : Option (List Column) → Rec → List ℕ
expand_line columns row = join_with_byte 44 (filter_map (part_of row) (columns_of columns row))

-- a line for each row
abbrev pub expand_lines : Option (List Column) → List Rec → List ℕ
expand_lines columns rows = flat_map (λ row. expand_line columns row ++ 10 ∷ []) rows

-- the plain lines of an answer
abbrev pub expand : Rowset → List ℕ
expand answer =
    expand_lines (if answer.all then None else Some answer.columns) answer.rows.rows
