use Rattle.std.proofs.Common.{◌∙◌, ◌++◌, [], refl, sym, subst}
use Rattle.std.proofs.Common.{append-nil, append_assoc, arith}
use Rattle.cal_keeping.proofs.SteppedRunners.{all-done, lines-remain, one-less, same-already}
use Rattle.cal_keeping.proofs.SteppedRunners.{same-then, step-same}
use Rattle.cal_keeping.specs.Kept.{AreToldOf, IsFlushedAt}
use Rattle.cal_keeping.specs.Runners.{IsRunner}
use Rattle.cal_replay.proofs.ManyLines.{asked-none, readings-then}
use Rattle.cal_replay.specs.Workers.{script_of}
use Rattle.cal_keeping.proofs.runner.Runner.run.Goals as goal

pub loop-alloc-init : goal.loop-alloc-init
loop-alloc-init g c = record {
  some = c.requires.runner;
  more = λ h r. (
    [],
    subst (IsRunner _ _ c.args.shared.now c.args.self.now)
        (sym (append-nil h)) r,
  );
  number = refl;
  services = same-already _ g.H.PartHand.same c.args.self.now.channels;
  start = refl;
  read = (
    [],
    sym (append-nil c.args.self.now.worker.note.lines),
    asked-none _ c.args.shared.now.real c.args.clock.now,
  );
}

pub step-requires-clause-runner : goal.step-requires-clause-runner
step-requires-clause-runner g c = c.loop-alloc.invariant.some

pub step-requires-clause-remains : goal.step-requires-clause-remains
step-requires-clause-remains g c =
    lines-remain (script_of c.args.shared.now) c.loop-alloc.self.worker c.has_more.result
    c.has_more.ensures c.loop-alloc-test.true

pub loop-alloc-smaller : goal.loop-alloc-smaller
loop-alloc-smaller g c =
    let below = lines-remain (script_of c.args.shared.now) c.loop-alloc.self.worker
    c.has_more.result c.has_more.ensures c.loop-alloc-test.true in
    let one = one-less _ _ _ c.args.shared.now c.loop-alloc.clock c.step.new.clock c.loop-alloc.self
    c.step.new.self c.in_ok-_more.ensures.steps below in
    omega (arith, one)

pub loop-alloc-preserved : goal.loop-alloc-preserved
loop-alloc-preserved g c =
    let i = c.loop-alloc.invariant in
    let hand = g.H.PartHand in
    let shared = c.args.shared.now in
    let was = c.loop-alloc.self in
    let is = c.step.new.self in
    let s = c.in_ok-_more.ensures.steps in
    let runs = c.in_ok-_more.ensures.runs in
    record {
      some = (_, (runs i.some.0 i.some.1).1);
      more = λ h r.
          let m = i.more h r in
          let n = runs (h ++ m.0) m.1 in (
            m.0 ++ n.0,
            subst (IsRunner _ _ shared is) (append_assoc h m.0 n.0) n.1,
          );
      number = s.number ∙ i.number;
      services = same-then _ hand.same hand.later c.args.self.now.channels was.channels
          is.channels i.services (step-same _ hand.same hand.later _ _ shared c.loop-alloc.clock
          c.step.new.clock was is s);
      start = (λ k. (s.noted k).start) ∙ i.start;
      read = readings-then _ AreToldOf (IsFlushedAt hand.account hand.stays) shared
          c.args.self.now.worker was.worker is.worker c.args.clock.now c.loop-alloc.clock
          c.step.new.clock was.channels is.channels s i.read;
    }

pub returns-clause-runs : goal.returns-clause-runs
returns-clause-runs g c h r =
    let m = c.loop-alloc.invariant.more h r in
    record {
      ops = m.0;
      kept = m.1;
      all = all-done (script_of c.args.shared.now) c.loop-alloc.self.worker c.has_more.result
          c.has_more.ensures c.loop-alloc-test.false;
    }

pub returns-clause-number : goal.returns-clause-number
returns-clause-number g c = c.loop-alloc.invariant.number

pub returns-clause-services : goal.returns-clause-services
returns-clause-services g c = c.loop-alloc.invariant.services

pub returns-clause-start : goal.returns-clause-start
returns-clause-start g c = c.loop-alloc.invariant.start

pub returns-clause-read : goal.returns-clause-read
returns-clause-read g c = c.loop-alloc.invariant.read
