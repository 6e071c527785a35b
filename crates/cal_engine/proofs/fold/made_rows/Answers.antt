use Rattle.std.proofs.Common.{sym, ◌∙◌}
use Rattle.cal_engine.proofs.Folds.{rows_grouped, rows_kept}
use Rattle.cal_engine.proofs.fold.made_rows.Goals as goal

pub returns-then-is_aggregated : goal.returns-then-is_aggregated
returns-then-is_aggregated c = λ rs is.
    rows_grouped c.args.query.now c.args.groups.now c.args.rows rs c.in_ok-made.made is
    (sym c.is_aggregated.ensures ∙ c.if-is_aggregated.true) (c.in_ok-made.ensures rs)

pub returns : goal.returns
returns c = λ rs is.
    rows_kept c.args.query.now c.args.groups.now c.args.rows rs is (sym c.is_aggregated.ensures ∙ c.if-is_aggregated.false)
