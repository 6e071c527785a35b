use Rattle.std.proofs.Common.{ap, ◌∙◌}
use Rattle.cal_engine.specs.Sorting.{sorted_rows}
use Rattle.cal_engine.proofs.snapshot_rows.ordered_rows.Goals as goal

pub returns-clause-rows : goal.returns-clause-rows
returns-clause-rows c = λ ks h.
    c.in_ok-order.ensures ∙ ap (sorted_rows c.args.query.now.order) (c.in_ok-rows.ensures.rows ks h)
