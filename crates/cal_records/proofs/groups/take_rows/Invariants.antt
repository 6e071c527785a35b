use Rattle.std.proofs.Common.{List, map, take, ◌≡◌}
use Rattle.cal_context.specs.Taking.{TakesMore}
use Rattle.cal_engine.specs.Making.{MakesRows}
use Rattle.cal_ql.specs.declared.query.Agg.{Agg}
use Rattle.cal_rowset.specs.Answers.{nth_row}
use Rattle.cal_value.specs.declared.record.Rec.{Rec}
use Rattle.cal_records.proofs.groups.take_rows.Given as goal

-- the rows so far were taken
abbrev pub invariant-loop-number : goal.invariant-loop-number
invariant-loop-number g l = record {
  taken : (aggs : List Agg) (rs : List Rec) → MakesRows l.context aggs l.rows rs
      → TakesMore
      (g.T.Taker.has_taken l.fn.taker l.context)
      (g.T.Taker.has_taken l.taker l.context)
      (map (nth_row rs) (take l.number-index l.order));
  about : g.T.Taker.about l.taker ≡ g.T.Taker.about l.fn.taker;
}
