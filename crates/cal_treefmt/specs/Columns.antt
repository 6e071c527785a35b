-- The columns beside a tree.
use Rattle.std.specs.Prelude.{ℕ, Bool, ◌&&◌, not, List, filter, map}
use Rattle.std.specs.List.{flat_map}
use Rattle.cal_value.specs.declared.record.Rec.{Rec}
use Rattle.cal_rowset.specs.Cells.{is_path}
use Rattle.cal_rowset.specs.Hierarchy.{hierarchy}
use Rattle.cal_rowset.specs.Known.{is_known}
use Rattle.cal_rowset.specs.declared.rowset.Column.{Column}

-- the names of the entries in the rows' hierarchies
abbrev pub nested_names : List Rec → List (List ℕ)
nested_names rows = map (λ e. e.attr.name) (flat_map hierarchy rows)

-- A column stands beside the tree unless it shows the hierarchy, or a name that stands in the
-- hierarchy of some row (Giltmoth's layout).
abbrev pub is_beside_names : List (List ℕ) → Column → Bool
is_beside_names names column = not (is_path column.name) && not (is_known names column.name)

abbrev pub columns_beside : List Rec → List Column → List Column
columns_beside rows columns = filter (is_beside_names (nested_names rows)) columns
