use Rattle.std.proofs.Common.{◌≡◌, List, take}
use Rattle.std.specs.List.{filter_map}
use Rattle.cal_value.specs.declared.record.Rec.{Rec}
use Rattle.cal_rowset.specs.Showing.{ShowsRow}
use Rattle.cal_rowset.specs.declared.rowset.Column.{Column}
use Rattle.cal_tabfmt.specs.Expand.{part_of}
use Rattle.cal_tabfmt.specs.Parts.{HasParts, column_fronts}
use Rattle.cal_tabfmt.proofs.column_lines.append_line.Given as goal

abbrev pub invariant-loop-place : goal.invariant-loop-place
invariant-loop-place l = (columns : List Column) (row : Rec) → ShowsRow l.shown columns row → l.fronts ≡ column_fronts columns
    → HasParts l.fn.out l.out l.is_first (filter_map (part_of row) (take l.place columns))
