use Rattle.std.proofs.Common.{map, take}
use Rattle.cal_rowset.specs.Showing.{IsFor}
use Rattle.cal_jsonfmt.specs.Choosing.{AreFor}
use Rattle.cal_jsonfmt.specs.Json.{row_json}
use Rattle.cal_jsonfmt.specs.Writing.{WritesEach}
use Rattle.cal_jsonfmt.proofs.text.write_array.Given as goal

-- the objects of the rows so far
abbrev pub invariant-loop-place : goal.invariant-loop-place
invariant-loop-place g l = record {
  each : WritesEach l.initial.writer l.writer (map (row_json l.columns) (take l.place (g.A.Answer.answer l.answer).rows.rows));
  objects : AreFor l.objects l.columns;
  shown : IsFor l.shown l.columns;
  ready : g.A.Answer.is_ready l.answer l.shown;
}
