use Rattle.std.proofs.lemmas.Result.{IfOk-weaker}
use Rattle.cal_engine.proofs.snapshot_rows.rows_of_groups.Goals as goal

pub returns-clause-rows : goal.returns-clause-rows
returns-clause-rows c =
    IfOk-weaker c.all_rows.result _ _ (λ rows is ks groups. is c.args.query.now.aggs _ (c.in_ok-made.ensures.rows ks groups)) c.all_rows.ensures
