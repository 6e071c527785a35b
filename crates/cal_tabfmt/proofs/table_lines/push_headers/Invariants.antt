use Rattle.std.proofs.Common.{◌≡◌, ◌++◌, take}
use Rattle.cal_tabfmt.specs.Table.{header_line}
use Rattle.cal_tabfmt.proofs.table_lines.push_headers.Given as goal

abbrev pub invariant-loop-column : goal.invariant-loop-column
invariant-loop-column l = l.line ≡ l.fn.line ++ header_line (take l.column-index l.columns)
