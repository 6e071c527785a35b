use Rattle.std.proofs.Common.{◌≡◌, [], flat_map, map, take}
use Rattle.cal_rowset.specs.Showing.{IsFor}
use Rattle.cal_tabfmt.specs.Kept.{Keeps}
use Rattle.cal_tabfmt.specs.Table.{row_line}
use Rattle.cal_tabfmt.specs.Tables.{held}
use Rattle.cal_tabfmt.proofs.table.all_held.Given as goal

abbrev pub invariant-loop-place : goal.invariant-loop-place
invariant-loop-place g l = record {
  known : l.all.items ≡ map (held (take l.place (g.A.Answer.answer l.answer).rows.rows)) l.columns;
  texts : Keeps l.fn.texts [] → Keeps l.texts (flat_map (row_line l.columns) (take l.place (g.A.Answer.answer l.answer).rows.rows));
  shown : IsFor l.shown l.columns;
  ready : g.A.Answer.is_ready l.answer l.shown;
}
