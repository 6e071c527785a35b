use Rattle.std.proofs.Common.{◌≡◌, ◌∙◌, ◌+◌, ◌-◌, List, [], length, ℕ, refl, sym, ap, subst}
use Rattle.std.proofs.Common.{append-nil, arith}
use Rattle.std.proofs.lemmas.Bool.{ltb-false, ltb-true}
use Rattle.std.proofs.lemmas.List.{take_all}
use Rattle.cal_replay.proofs.ManyLines.{asked-none, one-more, ran-more, readings-then}
use Rattle.cal_replay.specs.Workers.{IsWorker, lines_of, script_of}
use Rattle.cal_words.specs.declared.op.OpRec.{OpRec}
use Rattle.cal_replay.proofs.worker.Worker.run.Goals as goal

pub loop-alloc-init : goal.loop-alloc-init
loop-alloc-init g c = record {
  some = c.requires.worker;
  more = λ h w. (
    [],
    subst (λ (hs : List OpRec). IsWorker c.args.shared.now c.args.self.now hs)
        (sym (append-nil h)) w,
  );
  number = refl;
  start = refl;
  keeper = refl;
  ready = c.requires.ready;
  read = (
    [],
    sym (append-nil c.args.self.now.note.lines),
    asked-none _ c.args.shared.now.real c.args.clock.now,
  );
}

pub step-requires-clause-worker : goal.step-requires-clause-worker
step-requires-clause-worker g c = c.loop-alloc.invariant.some

pub step-requires-clause-remains : goal.step-requires-clause-remains
step-requires-clause-remains g c =
    ltb-true _ _ (sym c.has_more.ensures ∙ c.loop-alloc-test.true)

pub step-requires-clause-keeper : goal.step-requires-clause-keeper
step-requires-clause-keeper g c =
    c.loop-alloc.invariant.keeper ∙ c.requires.keeper ∙ sym c.loop-alloc.invariant.number

pub step-requires-clause-ready : goal.step-requires-clause-ready
step-requires-clause-ready g c =
    let lines = length (lines_of (script_of c.args.shared.now) c.loop-alloc.self.thread.number) in
    let done = length c.loop-alloc.self.note.lines in
    let below = ltb-true done lines (sym c.has_more.ensures ∙ c.loop-alloc-test.true) in
    let one : lines - done ≡ (lines - done - 1) + 1 = omega (arith, below) in (
      lines - done - 1,
      subst (g.F.Keeper.ready (script_of c.args.shared.now) c.loop-alloc.keeper
          c.args.shared.now.timers.some) one c.loop-alloc.invariant.ready,
    )

pub loop-alloc-smaller : goal.loop-alloc-smaller
loop-alloc-smaller g c =
    let s = c.in_ok-_more.ensures.steps in
    let below = ltb-true (length c.loop-alloc.self.note.lines)
    (length (lines_of (script_of c.args.shared.now) c.loop-alloc.self.thread.number))
    (sym c.has_more.ensures ∙ c.loop-alloc-test.true) in
    let one = one-more _ _ _ c.args.shared.now c.args.self.now c.loop-alloc.self c.step.new.self
    c.args.clock.now c.loop-alloc.clock c.step.new.clock _ _ s in
    let same = ap (λ (n : ℕ). length (lines_of (script_of c.args.shared.now) n)) s.number in
    omega (arith, below, one, same)

pub loop-alloc-preserved : goal.loop-alloc-preserved
loop-alloc-preserved g c =
    let i = c.loop-alloc.invariant in
    let lines : ℕ → ℕ = λ n. length (lines_of (script_of c.args.shared.now) n) in
    let was = c.loop-alloc.self in
    let is = c.step.new.self in
    let done = length was.note.lines in
    let ready = g.F.Keeper.ready (script_of c.args.shared.now) in
    let timed = c.args.shared.now.timers.some in
    let below = ltb-true done (lines was.thread.number)
    (sym c.has_more.ensures ∙ c.loop-alloc-test.true) in
    let before : lines was.thread.number - done ≡ (lines was.thread.number - done - 1) + 1 =
    omega (arith, below) in
    let same = ap lines c.in_ok-_more.ensures.steps.number in
    let one = one-more _ _ _ c.args.shared.now c.args.self.now was is
    c.args.clock.now c.loop-alloc.clock c.step.new.clock _ _ c.in_ok-_more.ensures.steps in
    let after : lines was.thread.number - done - 1
    ≡ lines is.thread.number - length is.note.lines = omega (arith, below, same, one) in
    let s = c.in_ok-_more.ensures.steps in
    let more = ran-more _ _ _ c.args.shared.now c.args.self.now c.loop-alloc.self c.step.new.self
    c.args.clock.now c.loop-alloc.clock c.step.new.clock _ _ s in
    record {
      some = (_, (s.runs i.some.0 i.some.1).kept);
      more = λ h w. more h (i.more h w);
      number = s.number ∙ i.number;
      start = (λ k. (s.noted k).start) ∙ i.start;
      keeper = c.in_ok-_more.ensures.keeper ∙ i.keeper;
      ready = subst (ready c.step.new.keeper timed) after
          (c.in_ok-_more.ensures.ready (lines was.thread.number - done - 1)
          (subst (ready c.loop-alloc.keeper timed) before i.ready));
      read = readings-then _ _ _ c.args.shared.now c.args.self.now c.loop-alloc.self c.step.new.self
          c.args.clock.now c.loop-alloc.clock c.step.new.clock _ _ s i.read;
    }

pub returns-clause-runs : goal.returns-clause-runs
returns-clause-runs g c h w =
    let m = c.loop-alloc.invariant.more h w in
    let lines = lines_of (script_of c.args.shared.now) c.loop-alloc.self.thread.number in
    record {
      ops = m.0;
      kept = m.1;
      all = take_all (length c.loop-alloc.self.note.lines) lines
          (ltb-false (length c.loop-alloc.self.note.lines) (length lines)
          (sym c.has_more.ensures ∙ c.loop-alloc-test.false));
    }

pub returns-clause-number : goal.returns-clause-number
returns-clause-number g c = c.loop-alloc.invariant.number

pub returns-clause-start : goal.returns-clause-start
returns-clause-start g c = c.loop-alloc.invariant.start

pub returns-clause-read : goal.returns-clause-read
returns-clause-read g c = c.loop-alloc.invariant.read

pub returns-clause-keeper : goal.returns-clause-keeper
returns-clause-keeper g c = c.loop-alloc.invariant.keeper
