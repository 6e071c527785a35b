use Rattle.std.proofs.Common.{◌≡◌, List, ◌++◌, drop, flat_map, length, map, take}
use Rattle.cal_value.specs.declared.record.Rec.{Rec}
use Rattle.cal_rowset.specs.declared.rowset.Column.{Column}
use Rattle.cal_tabfmt.specs.Grid.{grid_line}
use Rattle.cal_tabfmt.specs.Kept.{AreLeft, Keeps}
use Rattle.cal_tabfmt.specs.Table.{row_line}
use Rattle.cal_tabfmt.proofs.table.append_rows.Given as goal

abbrev pub invariant-loop-row : goal.invariant-loop-row
invariant-loop-row l = (columns : List Column) (rows : List Rec) → length columns ≡ length l.shapes → length rows ≡ l.count
    → Keeps l.texts (flat_map (row_line columns) rows)
    → (l.out ≡ l.fn.out ++ flat_map (grid_line l.shapes) (map (row_line columns) (take l._row rows)))
    × AreLeft l.texts l.mark (flat_map (row_line columns) (drop l._row rows))
