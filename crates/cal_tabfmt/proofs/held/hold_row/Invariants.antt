use Rattle.std.proofs.Common.{◌≡◌, ℕ, List, ◌++◌, length, map, take}
use Rattle.cal_value.specs.declared.record.Rec.{Rec}
use Rattle.cal_rowset.specs.Showing.{ShowsRow}
use Rattle.cal_rowset.specs.declared.rowset.Column.{Column}
use Rattle.cal_tabfmt.specs.Kept.{Keeps}
use Rattle.cal_tabfmt.specs.Table.{row_line}
use Rattle.cal_tabfmt.specs.Tables.{held, held_before}
use Rattle.cal_tabfmt.proofs.held.hold_row.Given as goal

abbrev pub invariant-loop-place : goal.invariant-loop-place
invariant-loop-place l = record {
  counted : length l.all.items ≡ length l.fn.all.items;
  known : (columns : List Column) (row : Rec) (rows : List Rec) → ShowsRow l.shown columns row
      → l.fn.all.items ≡ map (held rows) columns → l.all.items ≡ held_before rows row columns l.place;
  texts : (columns : List Column) (row : Rec) (before : List (List ℕ)) → ShowsRow l.shown columns row
      → length l.fn.all.items ≡ length columns → Keeps l.fn.texts before → Keeps l.texts (before ++ take l.place (row_line columns row));
}
