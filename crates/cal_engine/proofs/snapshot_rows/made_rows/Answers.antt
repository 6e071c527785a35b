use Rattle.std.proofs.Common.{map, sym, ◌∙◌}
use Rattle.std.proofs.lemmas.Result.{IfOk-weaker}
use Rattle.cal_rowset.specs.NumberedRows.{meant}
use Rattle.cal_engine.proofs.Tallying.{rows_held, rows_plain}
use Rattle.cal_engine.proofs.snapshot_rows.made_rows.Goals as goal

pub returns-then-is_aggregated-clause-rows : goal.returns-then-is_aggregated-clause-rows
returns-then-is_aggregated-clause-rows c =
    IfOk-weaker c.rows_of_groups.result _ _
    (λ rows is ks h.
    rows_held c.args.context.now c.args.query.now ks (map (meant c.rows_of_groups.new.context) rows) c.args.groups c.args.kept
    (sym c.is_aggregated.ensures ∙ c.if-is_aggregated.true) (is ks) h)
    c.rows_of_groups.ensures.rows

pub returns-clause-rows : goal.returns-clause-rows
returns-clause-rows c = λ ks h.
    rows_plain c.args.context.now c.args.query.now ks c.args.groups c.args.kept (sym c.is_aggregated.ensures ∙ c.if-is_aggregated.false) h
