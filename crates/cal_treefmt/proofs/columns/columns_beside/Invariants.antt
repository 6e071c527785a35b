use Rattle.std.proofs.Common.{◌≡◌, List, take}
use Rattle.cal_value.specs.declared.record.Rec.{Rec}
use Rattle.cal_treefmt.specs.Columns.{columns_beside}
use Rattle.cal_treefmt.specs.Walks.{HasNodes}
use Rattle.cal_treefmt.proofs.columns.columns_beside.Given as goal

abbrev pub invariant-loop-column : goal.invariant-loop-column
invariant-loop-column l = (rows : List Rec) → HasNodes l.context rows
    → l.beside.items ≡ columns_beside rows (take l.column-index l.columns)
