use Rattle.std.proofs.Common.{◌≡◌, Some, take}
use Rattle.cal_rowset.specs.Showing.{IsFor}
use Rattle.cal_tabfmt.specs.Expand.{expand_lines}
use Rattle.cal_tabfmt.proofs.column_lines.column_lines.Given as goal

abbrev pub invariant-loop-place : goal.invariant-loop-place
invariant-loop-place g l = record {
  text : l.out ≡ expand_lines (Some l.columns) (take l.place (g.A.Answer.answer l.answer).rows.rows);
  is : IsFor l.shown l.columns;
  ready : g.A.Answer.is_ready l.answer l.shown;
}
