use Rattle.std.proofs.Common.{◌≡◌, take}
use Rattle.cal_tabfmt.specs.Parts.{column_fronts}
use Rattle.cal_tabfmt.proofs.column_lines.fronts.Given as goal

abbrev pub invariant-loop-column : goal.invariant-loop-column
invariant-loop-column l = l.fronts.items ≡ column_fronts (take l.column-index l.columns)
