use Rattle.std.proofs.lemmas.Result.{IfOk-weaker}
use Rattle.cal_engine.proofs.snapshot_fold.SnapshotFold.grouped_rows.Goals as goal

pub returns-clause-rows : goal.returns-clause-rows
returns-clause-rows c = IfOk-weaker c.rows_of_tally.result _ _ (λ made makes rs h. makes rs c.args.self.rows h.holds) c.rows_of_tally.ensures.rows
