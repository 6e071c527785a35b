use Rattle.std.proofs.Common.{◌∙◌, ap}
use Rattle.cal_filter.specs.Memo.{row_at}
use Rattle.cal_filter.proofs.RowLemmas.{on_err, rows_more}
use Rattle.cal_filter.proofs.attribute_names.add_rows.Goals as goal

pub loop-alloc-preserved : goal.loop-alloc-preserved
loop-alloc-preserved c = λ n.
    ap (λ rows. row_at rows n) c.in_ok-push.ensures.items
    ∙ rows_more c.loop-alloc.rows.items c.no_places-row.result c.no_places-row.ensures n
    ∙ c.loop-alloc.invariant n

pub returns-in_err-push-clause-err : goal.returns-in_err-push-clause-err
returns-in_err-push-clause-err c =
    on_err c.from_residual.result
    (λ n. ap (λ rows. row_at rows n) c.in_err-push.ensures.items ∙ c.loop-alloc.invariant n)
