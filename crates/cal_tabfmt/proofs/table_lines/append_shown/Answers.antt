use Rattle.std.proofs.Common.{◌∙◌, sym}
use Rattle.cal_tabfmt.proofs.table_lines.append_shown.Goals as goal

pub returns-then-is_one_line : goal.returns-then-is_one_line
returns-then-is_one_line c = rw (rw c.as_str.ensures at (c.is_one_line.ensures c.if-is_one_line.true) ∙ sym c.as_str-then-is_one_line.ensures) c.append_column.ensures

pub returns : goal.returns
returns c = rw (c.as_str-3.ensures ∙ rw c.as_str-2.ensures at c.in_ok-line.ensures) at c.append_column-2.ensures
