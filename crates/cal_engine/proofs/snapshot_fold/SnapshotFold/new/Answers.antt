use Rattle.std.proofs.lemmas.Result.{IfOk-weaker}
use Rattle.cal_engine.proofs.snapshot_fold.SnapshotFold.new.Goals as goal

pub returns-clause-none : goal.returns-clause-none
returns-clause-none c = IfOk-weaker c.with_gate.result _ _
    (λ fold none. none c.new.new.context c.in_ok-gate.ensures.ready)
    c.with_gate.ensures.none
