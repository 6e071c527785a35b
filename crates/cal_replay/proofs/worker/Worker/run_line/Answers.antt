use Rattle.std.proofs.Common.{◌≡◌, ◌+◌, ◌∙◌, ℕ, Bool, length, sym, subst}
use Rattle.std.specs.Prelude.{Some}
use Rattle.cal_channel.proofs.SaidLemmas.{said-thread}
use Rattle.cal_process.proofs.ScriptLemmas.{some-shared}
use Rattle.cal_replay.proofs.NotedLines.{steps-over}
use Rattle.cal_process.specs.Operations.{history_of}
use Rattle.cal_replay.specs.Workers.{script_of, state_of}
use Rattle.cal_run.proofs.HeldLemmas.{line_at-placed}
use Rattle.cal_run.specs.Lines.{line_at}
use Rattle.cal_replay.specs.declared.shared.Shared.{Shared}
use Rattle.cal_replay.specs.declared.worker.Worker.{Worker}
use Rattle.cal_script.specs.declared.script.Line.{Line}
use Rattle.cal_replay.proofs.worker.Worker.run_line.Goals as goal

-- the next line, by how many are noted
next-at : (shared : Shared) (worker : Worker) (l : Line) (number : ℕ)
    → number ≡ length worker.note.lines + 1
    → line_at (script_of shared) worker.thread.number number ≡ Some l
    → line_at (script_of shared) worker.thread.number (length worker.note.lines + 1) ≡ Some l
next-at shared worker l number same next =
    subst (λ (n : ℕ). line_at (script_of shared) worker.thread.number n ≡ Some l) same next

pub run_own-requires-clause-placed : goal.run_own-requires-clause-placed
run_own-requires-clause-placed g c =
    line_at-placed (script_of c.args.shared.now) c.args.self.now.thread.number c.args.number
    c.args.line c.requires.shared.common.runnable c.requires.next

pub run_own-requires-clause-thread : goal.run_own-requires-clause-thread
run_own-requires-clause-thread g c =
    let w = c.requires.worker in
    let script = script_of c.args.shared.now in
    let self = c.args.self.now in
    let done = length self.note.lines in (
      done,
      w.0,
      state_of script w.0 self,
      w.1.thread,
      next-at c.args.shared.now self c.args.line c.args.number c.requires.number c.requires.next,
      said-thread script (history_of w.0) self.thread.number done self.note.lines
          c.requires.shared.common.runnable,
    )

pub run_own-requires-clause-ready : goal.run_own-requires-clause-ready
run_own-requires-clause-ready g c =
    let r = c.requires.ready in (
      r.0,
      subst (λ (b : Bool). g.F.Keeper.ready (script_of c.args.shared.now) c.args.keeper.now b
          (r.0 + 1)) (sym c.requires.worker.1.timed) r.1,
    )

pub run_shared-requires-clause-placed : goal.run_shared-requires-clause-placed
run_shared-requires-clause-placed g c =
    line_at-placed (script_of c.args.shared.now) c.args.self.now.thread.number c.args.number
    c.args.line c.requires.shared.common.runnable c.requires.next

pub run_shared-requires-clause-thread : goal.run_shared-requires-clause-thread
run_shared-requires-clause-thread g c =
    let w = c.requires.worker in
    let script = script_of c.args.shared.now in
    let self = c.args.self.now in
    let done = length self.note.lines in
    let p = some-shared script self.thread.number c.args.number c.args.line c.in-Some.op
    (sym c.in-Some.ensures) in (
      done,
      w.0,
      state_of script w.0 self,
      w.1.thread,
      (p.2 ∙ c.requires.number),
      said-thread script (history_of w.0) self.thread.number done self.note.lines
          c.requires.shared.common.runnable,
    )

pub run_shared-requires-clause-ready : goal.run_shared-requires-clause-ready
run_shared-requires-clause-ready g c =
    let r = c.requires.ready in (
      r.0,
      subst (λ (b : Bool). g.F.Keeper.ready (script_of c.args.shared.now) c.args.keeper.now b
          (r.0 + 1)) (sym c.requires.worker.1.timed) r.1,
    )

pub returns-in_ok-note-in-Some : goal.returns-in_ok-note-in-Some
returns-in_ok-note-in-Some g c = record {
  steps =
      let shared = c.args.shared.now in
      let script = script_of shared in
      let old = c.args.self.now in
      let p = some-shared script old.thread.number c.args.number c.args.line c.in-Some.op
      (sym c.in-Some.ensures) in
      let answer = c.in_ok-answer-in-Some in
      let noted = c.in_ok-note-in-Some.ensures in
      steps-over g.K.Clock.given g.F.Keeper.shown g.F.Keeper.flushed c.args.clock.now
      c.run_shared.new.clock c.args.keeper.now c.run_shared.new.keeper shared old
      c.run_shared.new.thread c.note.new.self c.args.line answer.answer
      (next-at shared old c.args.line c.args.number c.requires.number c.requires.next)
      noted.noted noted.start noted.thread answer.ensures.number answer.ensures.timed
      answer.ensures.asked answer.ensures.runs.0
      (λ h state w. answer.ensures.runs.1 (length old.note.lines) h state w
      (p.2 ∙ c.requires.number));
  keeper = c.in_ok-answer-in-Some.ensures.keeper;
  ready = subst (λ (b : Bool). (left : ℕ)
      → g.F.Keeper.ready (script_of c.args.shared.now) c.args.keeper.now b (left + 1)
      → g.F.Keeper.ready (script_of c.args.shared.now) c.run_shared.new.keeper b left)
      c.requires.worker.1.timed c.in_ok-answer-in-Some.ensures.ready;
}

pub returns-in_ok-note-in-None : goal.returns-in_ok-note-in-None
returns-in_ok-note-in-None g c = record {
  steps =
      let shared = c.args.shared.now in
      let script = script_of shared in
      let old = c.args.self.now in
      let answer = c.in_ok-answer-in-None in
      let noted = c.in_ok-note-in-None.ensures in
      steps-over g.K.Clock.given g.F.Keeper.shown g.F.Keeper.flushed c.args.clock.now
      c.run_own.new.clock
      c.args.keeper.now c.run_own.new.keeper shared old
      c.run_own.new.thread c.note-in-None.new.self c.args.line answer.answer
      (next-at shared old c.args.line c.args.number c.requires.number c.requires.next)
      noted.noted noted.start noted.thread answer.ensures.number answer.ensures.timed
      answer.ensures.asked answer.ensures.runs.0
      (λ h state w. answer.ensures.runs.1 (length old.note.lines) h state
      (next-at shared old c.args.line c.args.number c.requires.number c.requires.next) w);
  keeper = c.in_ok-answer-in-None.ensures.keeper;
  ready = subst (λ (b : Bool). (left : ℕ)
      → g.F.Keeper.ready (script_of c.args.shared.now) c.args.keeper.now b (left + 1)
      → g.F.Keeper.ready (script_of c.args.shared.now) c.run_own.new.keeper b left)
      c.requires.worker.1.timed c.in_ok-answer-in-None.ensures.ready;
}
