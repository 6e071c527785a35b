use Rattle.std.proofs.Common.{◌∙◌}
use Rattle.cal_tabfmt.proofs.TableLemmas.{headers-more}
use Rattle.cal_tabfmt.proofs.table_lines.push_headers.Goals as goal

pub loop-column-preserved : goal.loop-column-preserved
loop-column-preserved c =
    c.in_ok-push.ensures.ok
    ∙ headers-more c.args.columns.now c.loop-column.column-index c.column-item.result c.args.line.now c.loop-column.line _ c.loop-column-test.true c.column-item.is c.loop-column.invariant
    (rw c.as_str.ensures at c.in_ok-on_line.ensures)
