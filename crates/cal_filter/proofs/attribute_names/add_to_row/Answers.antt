use Rattle.std.proofs.Common.{◌∙◌, ap}
use Rattle.cal_filter.specs.Memo.{row_with}
use Rattle.cal_filter.proofs.RowLemmas.{on_err, rows_put, rows_same}
use Rattle.cal_filter.proofs.attribute_names.add_to_row.Goals as goal

pub returns-clause-ok : goal.returns-clause-ok
returns-clause-ok c = λ n.
    rows_put c.args.name c.args.place c.add_rows.new.rows.items c.put_in_row.new.rows.items
    c.in_ok-add_rows.ensures.there c.in_ok-put_in_row.ensures.ok n
    ∙ ap (row_with c.args.name c.args.place n) (c.in_ok-add_rows.ensures.ok n)

pub returns-in_err-put_in_row-clause-err : goal.returns-in_err-put_in_row-clause-err
returns-in_err-put_in_row-clause-err c =
    on_err c.from_residual-in_err-put_in_row.result
    (λ n. rows_same c.add_rows.new.rows.items c.put_in_row.new.rows.items
    c.in_err-put_in_row.ensures.err n
    ∙ c.in_ok-add_rows.ensures.ok n)
