-- Rows by number.
use Rattle.std.specs.Prelude.{◌≡◌, List, map}
use Rattle.std.specs.List.{All}
use Rattle.cal_context.specs.Tree.{Tree}
use Rattle.cal_rowset.specs.NumberedRows.{IsWithin, NumberedRow, meant}
use Rattle.cal_value.specs.declared.record.Rec.{Rec}

-- rows by number mean these records in a context
pub record AreRows (t : Tree) (rows : List NumberedRow) (rs : List Rec) : Type 0 where
  pub within : All (IsWithin t) rows
  pub mean : map (meant t) rows ≡ rs
