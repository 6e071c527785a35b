use Rattle.cal_keeping.proofs.StartedRunners.{runner-started, started-same}
use Rattle.cal_keeping.proofs.runner.Runner.start.Goals as goal

pub returns-clause-runner : goal.returns-clause-runner
returns-clause-runner g c =
    runner-started _ _ c.args.shared.now c.args.self.now
    (record { worker = c.start.new.self; channels = c.start-2.new.self })
    c.unwrap_or-reading.result c.shown_at_start_law.ensures c.requires.hired c.start.ensures.worker
    c.start.ensures.noted c.start.ensures.thread c.unwrap_or-reading.ensures
    c.start-2.ensures.started c.start-2.ensures.same

pub returns-clause-services : goal.returns-clause-services
returns-clause-services g c =
    started-same _ g.H.PartHand.same c.args.self.now.channels c.start-2.new.self
    c.start-2.ensures.same
