use Rattle.std.proofs.Common.{ℕ, List, map, ap, ◌∙◌}
use Rattle.std.specs.Prelude.{is_some}
use Rattle.std.specs.List.{filter_map}
use Rattle.cal_filter.specs.Kept.{kept}
use Rattle.cal_rowset.specs.NumberedRows.{in_order, meant}
use Rattle.cal_engine.specs.Answers.{columns_of}
use Rattle.cal_engine.proofs.AnswerParts.{answer_is, turned}
use Rattle.cal_engine.proofs.snapshot_fold.answer_in.Goals as goal

pub returns : goal.returns
returns c = λ rs h.
    let q = c.args.query.now in
    let made = c.in_ok-rows.field-0 in
    c.new.ensures
    ∙ answer_is c.ordered_rows.new.context q (filter_map (kept q) rs) (in_order made.rows made.order.items) c.in_ok-columns.columns c.is_none-all.result
    (c.in_ok-rows.ensures.rows (filter_map (kept q) rs) h)
    (c.in_ok-columns.ensures ∙ ap (λ (ps : List ℕ). columns_of q q.select (map (meant c.ordered_rows.new.context) (in_order made.rows ps))) c.deref.ensures.value)
    (turned c.is_none-all.result (is_some q.select) c.is_none-all.ensures)
