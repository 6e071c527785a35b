-- The rows of an answer, wherever they are kept.
use Rattle.std.specs.Prelude.{ℕ, List, [], map, slice_index_or, ⊤}
use Rattle.std.specs.List.{All}
use Rattle.cal_value.specs.declared.record.Rec.{Rec}
use Rattle.cal_rowset.specs.NumberedRows.{IsWithin, in_order, meant}
use Rattle.cal_rowset.specs.declared.rows.Rows.{Rows}
use Rattle.cal_rowset.specs.declared.rows.Rows.TheVariants.{Owned, Numbered}

-- the row at a place of a list
abbrev pub nth_row : List Rec → ℕ → Rec
nth_row rows place = slice_index_or rows place (record { paths = []; imms = [] })

-- the rows that are meant
abbrev pub rows_of : Rows → List Rec
rows_of (Owned rows) = rows.now
rows_of (Numbered context rows order) = map (meant context.now) (in_order rows.now order.now)

-- rows by number lie in their context
abbrev pub AreWithin : Rows → Type 0
AreWithin (Owned rows) = ⊤
AreWithin (Numbered context rows order) = All (IsWithin context.now) rows.now
