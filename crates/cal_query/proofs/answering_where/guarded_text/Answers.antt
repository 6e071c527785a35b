use Rattle.std.proofs.Common.{◌∙◌, sym, ap}
use Rattle.std.specs.Prelude.{filter}
use Rattle.std.proofs.lemmas.Result.{IfOk-weaker}
use Rattle.cal_filter.specs.Conditions.{where_holds}
use Rattle.cal_query.specs.Layout.{layout}
use Rattle.cal_query.proofs.Layouts.{lays_out_where}
use Rattle.cal_query.proofs.Plainness.{plain_answer}
use Rattle.cal_query.proofs.answering_where.guarded_text.Goals as goal

-- the rows themselves are the answer
pub returns-then-is_plain-clause-text : goal.returns-then-is_plain-clause-text
returns-then-is_plain-clause-text g c =
    let query = c.args.query.now in
    let conditions = g.K.Guard.conditions in
    IfOk-weaker c.rows_where.result _ _
    (λ text sees. lays_out_where conditions c.args.limit _ query text _
    (λ rows is. is ∙ plain_answer query (filter (where_holds conditions) rows)
    (sym c.is_plain.ensures ∙ c.if-is_plain.true))
    sees)
    c.rows_where.ensures.text

pub returns-clause-text : goal.returns-clause-text
returns-clause-text g c =
    let query = c.args.query.now in
    IfOk-weaker c.lay_out_found-text.result _ _
    (λ text laid. lays_out_where g.K.Guard.conditions c.args.limit _ query text _
    (λ rows is. laid ∙ ap (layout query.format) is)
    c.in_ok-answer.ensures.answer)
    c.lay_out_found-text.ensures.text
