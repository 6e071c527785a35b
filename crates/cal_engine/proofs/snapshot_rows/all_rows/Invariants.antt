use Rattle.std.proofs.Common.{◌≡◌, List, map, take}
use Rattle.cal_ql.specs.declared.query.Agg.{Agg}
use Rattle.cal_rowset.specs.NumberedRows.{meant}
use Rattle.cal_value.specs.declared.record.Rec.{Rec}
use Rattle.cal_engine.specs.Making.{MakesRows}
use Rattle.cal_engine.proofs.snapshot_rows.all_rows.Given as goal

-- the rows so far
abbrev pub invariant-loop-number : goal.invariant-loop-number
invariant-loop-number l = (aggs : List Agg) (rows : List Rec) → MakesRows l.context aggs l.made rows
    → map (meant l.context) l.all ≡ take l.number rows
