-- An answer whose rows are snapshots of a context, in an order of their places.
use Rattle.std.specs.Prelude.{Bool, List, [], map}
use Rattle.cal_context.specs.Tree.{Tree}
use Rattle.cal_rowset.specs.NumberedRows.{NumberedRow, in_order, meant}
use Rattle.cal_rowset.specs.Standing.{StandsIn}
use Rattle.cal_rowset.specs.declared.rowset.Column.{Column}
use Rattle.cal_rowset.specs.declared.rowset.Rowset.{Rowset}
use Rattle.cal_rowset.specs.declared.shown_row.ShownRow.{ShownRow}
use Rattle.cal_rowset.specs.declared.snapshot_rowset.SnapshotRowset.{SnapshotRowset}

-- an answer whose rows are what these mean in a context
abbrev pub answer_over : Tree → List NumberedRow → List Column → Bool → Rowset
answer_over t rows columns all = record {
  rows = record {
    rows = map (meant t) rows;
    globals = record { paths = []; imms = [] };
  };
  columns = columns;
  all = all;
}

-- the answer that is meant, its rows with entries of their own
abbrev pub rowset_of : SnapshotRowset → Rowset
rowset_of s = answer_over s.context (in_order s.rows s.order.items) s.columns s.all

-- the cells of a row stand in an answer's context
abbrev pub IsReadyFor : SnapshotRowset → ShownRow → Type 0
IsReadyFor s shown = StandsIn s.context shown
