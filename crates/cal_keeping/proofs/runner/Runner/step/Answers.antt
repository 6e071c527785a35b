use Rattle.std.proofs.Common.{◌≡◌, ◌-◌, ◌+◌, arith, subst}
use Rattle.cal_keeping.proofs.SteppedRunners.{one-less, runner-behind, step-same}
use Rattle.cal_keeping.specs.Kept.{AreReady}
use Rattle.cal_keeping.specs.Runners.{lines_left}
use Rattle.cal_keeping.specs.declared.runner.Runner.{Runner}
use Rattle.cal_replay.specs.Workers.{script_of}
use Rattle.cal_keeping.proofs.runner.Runner.step.Goals as goal

pub step-requires-clause-worker : goal.step-requires-clause-worker
step-requires-clause-worker g c = (c.requires.runner.0, c.requires.runner.1.worker)

pub step-requires-clause-keeper : goal.step-requires-clause-keeper
step-requires-clause-keeper g c = c.requires.runner.1.thread

pub step-requires-clause-ready : goal.step-requires-clause-ready
step-requires-clause-ready g c =
    let shared = c.args.shared.now in
    let self = c.args.self.now in
    let left = lines_left shared self.worker in
    let below = c.requires.remains in
    let one : left ≡ (left - 1) + 1 = omega (arith, below) in (
      left - 1,
      subst (AreReady _ _ (script_of shared) self.channels shared.timers.some) one
          c.requires.runner.1.ready,
    )

pub returns-clause-runs : goal.returns-clause-runs
returns-clause-runs g c h r =
    let hand = g.H.PartHand in
    let shared = c.args.shared.now in
    let e = c.in_ok-more.ensures in
    let old = c.args.self.now in
    let new : Runner g.row.P.Denot g.row.H.Denot =
    record { worker = c.step.new.self; channels = c.step.new.keeper } in
    let one = one-less _ _ _ shared c.args.clock.now c.step.new.clock old new e.steps
    c.requires.remains in (
      _,
      runner-behind _ _ _ shared c.args.clock.now c.step.new.clock old new e.steps _
          c.told_step_law.ensures c.shown_lines_law.ensures.merged h r
          (step-same _ hand.same hand.later _ _ shared c.args.clock.now c.step.new.clock old new
          e.steps) e.keeper
          (e.ready (lines_left shared new.worker)
          (subst (AreReady _ _ (script_of shared) old.channels shared.timers.some) one r.ready)),
    )
