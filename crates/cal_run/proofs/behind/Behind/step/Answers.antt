use Rattle.std.proofs.Common.{◌≡◌, ◌∙◌, List, subst, sym, refl}
use Rattle.cal_context.proofs.CallerLemmas.{Grows-trans}
use Rattle.cal_run.proofs.BehindLemmas.{behind-answer, behind-thread, reading-made, runs-behind}
use Rattle.cal_run.proofs.LineLemmas.{runs-earlier}
use Rattle.cal_run.proofs.NumberLemmas.{AreNumbered-Grows}
use Rattle.cal_run.specs.Held.{IsProcess}
use Rattle.cal_run.specs.Threads.{IsThread, RunsLine}
use Rattle.cal_run.specs.declared.behind.Behind.{Behind}
use Rattle.cal_run.specs.declared.thread.Thread.{Thread}
use Rattle.cal_script.specs.declared.journal.Placed.{Placed}
use Rattle.cal_run.proofs.behind.Behind.step.Goals as goal

pub take_in-requires-clause-process : goal.take_in-requires-clause-process
take_in-requires-clause-process g c =
    subst (λ (h : List Placed). IsProcess c.args.context.now c.args.script.now h
    c.args.self.now.thread.process) (sym c.requires.history)
    c.requires.behind.2.thread.process

pub take_in-requires-2-clause-numbered : goal.take_in-requires-2-clause-numbered
take_in-requires-2-clause-numbered g c =
    AreNumbered-Grows c.take_in.ensures.grows c.args.script.now c.args.numbers.now
    c.requires.numbered

pub returns-in_err-take_in-2-clause-grows : goal.returns-in_err-take_in-2-clause-grows
returns-in_err-take_in-2-clause-grows g c =
    Grows-trans _ _ _ c.take_in.ensures.grows c.take_in-2.ensures.grows

pub run_known-requires-clause-numbered : goal.run_known-requires-clause-numbered
run_known-requires-clause-numbered g c =
    AreNumbered-Grows (Grows-trans _ _ _ c.take_in.ensures.grows c.take_in-2.ensures.grows)
    c.args.script.now c.args.numbers.now c.requires.numbered

pub run_known-requires-clause-thread : goal.run_known-requires-clause-thread
run_known-requires-clause-thread g c =
    let was = c.requires.behind in
    let met : Thread = record {
      board = c.args.self.now.thread.board;
      readings = c.args.self.now.thread.readings;
      process = c.take_in-2.new.self;
      previous = c.args.self.now.thread.previous;
      timed = c.args.self.now.thread.timed;
    } in (
      was.0,
      was.1,
      subst (λ (h : List Placed). IsThread c.take_in-2.new.context c.args.script.now h met was.0
          was.1) (sym c.requires.history)
          (behind-thread c.take_in.ensures.grows c.take_in-2.ensures.grows c.args.script.now c.args.self.now
          c.args.line c.is_placed-shared.result c.is_placed-shared.ensures
          c.take_in.new.self c.take_in-2.new.self
          (subst (λ (h : List Placed). IsProcess c.take_in.new.context c.args.script.now h
          c.take_in.new.self) c.requires.history c.in_ok-take_in.ensures.process)
          (c.in_ok-take_in.ensures.seen ∙ c.seen_first-first.ensures)
          c.reply_of-reply.result c.reply_of-reply.ensures c.note_behind-note.result
          (c.note_behind-note.ensures ∙ reading-made c.args.script.now c.args.line
          c.args.self.now.before c.args.self.now.seen c.args.self.now.clock c.reply_of-reply.result
          c.is_accepted-accepted.result c.is_accepted-accepted.ensures c.is_read-read.result
          c.is_read-read.ensures c.reading_if-reading.result c.reading_if-reading.ensures)
          (subst (λ (h : List Placed). IsProcess c.take_in-2.new.context c.args.script.now h
          c.take_in-2.new.self) c.requires.history c.in_ok-take_in-2.ensures.process)
          (c.in_ok-take_in-2.ensures.seen ∙ c.seen_before-seen.ensures)
          was.0 was.1 was.2),
    )

pub run_known-requires-clause-answer : goal.run_known-requires-clause-answer
run_known-requires-clause-answer g c =
    let was = c.requires.behind in
    behind-answer c.take_in.ensures.grows c.take_in-2.ensures.grows c.args.script.now c.args.self.now
    c.args.line c.is_placed-shared.result c.is_placed-shared.ensures
    c.take_in.new.self c.take_in-2.new.self
    (subst (λ (h : List Placed). IsProcess c.take_in.new.context c.args.script.now h
    c.take_in.new.self) c.requires.history c.in_ok-take_in.ensures.process)
    (c.in_ok-take_in.ensures.seen ∙ c.seen_first-first.ensures)
    c.reply_of-reply.result c.reply_of-reply.ensures c.note_behind-note.result
    (c.note_behind-note.ensures ∙ reading-made c.args.script.now c.args.line
    c.args.self.now.before c.args.self.now.seen c.args.self.now.clock c.reply_of-reply.result
    c.is_accepted-accepted.result c.is_accepted-accepted.ensures c.is_read-read.result
    c.is_read-read.ensures c.reading_if-reading.result c.reading_if-reading.ensures)
    (subst (λ (h : List Placed). IsProcess c.take_in-2.new.context c.args.script.now h
    c.take_in-2.new.self) c.requires.history c.in_ok-take_in-2.ensures.process)
    (c.in_ok-take_in-2.ensures.seen ∙ c.seen_before-seen.ensures)
    was.0 was.1 was.2 c.is_accepted-accepted.result c.is_accepted-accepted.ensures

pub returns-in_err-run_known-clause-grows : goal.returns-in_err-run_known-clause-grows
returns-in_err-run_known-clause-grows g c =
    Grows-trans _ _ _ (Grows-trans _ _ _ c.take_in.ensures.grows c.take_in-2.ensures.grows)
    c.run_known.ensures.grows

pub returns-clause-grows : goal.returns-clause-grows
returns-clause-grows g c =
    Grows-trans _ _ _ (Grows-trans _ _ _ c.take_in.ensures.grows c.take_in-2.ensures.grows)
    c.run_known.ensures.grows

pub returns-clause-runs : goal.returns-clause-runs
returns-clause-runs g c = λ state previous is.
    let has_taken = g.T.Taker.has_taken in
    let script = c.args.script.now in
    let line = c.args.line in
    let channel = c.args.channel.now in
    let note = c.note_behind-note.result in
    let had = has_taken c.args.taker.now c.args.context.now in
    let mid = has_taken c.args.taker.now c.take_in-2.new.context in
    let has = has_taken c.run_known.new.taker c.run_known.new.context in
    let now : Behind = record {
      thread = c.run_known.new.thread;
      clock = c.clock_behind-self.result;
      seen = note.seen;
      before = c.count_behind-self.result;
      timers = c.args.self.now.timers;
    } in
    let met : Thread = record {
      board = c.args.self.now.thread.board;
      readings = c.args.self.now.thread.readings;
      process = c.take_in-2.new.self;
      previous = c.args.self.now.thread.previous;
      timed = c.args.self.now.thread.timed;
    } in
    let thread = behind-thread c.take_in.ensures.grows c.take_in-2.ensures.grows c.args.script.now c.args.self.now
    c.args.line c.is_placed-shared.result c.is_placed-shared.ensures
    c.take_in.new.self c.take_in-2.new.self
    (subst (λ (h : List Placed). IsProcess c.take_in.new.context c.args.script.now h
    c.take_in.new.self) c.requires.history c.in_ok-take_in.ensures.process)
    (c.in_ok-take_in.ensures.seen ∙ c.seen_first-first.ensures)
    c.reply_of-reply.result c.reply_of-reply.ensures c.note_behind-note.result
    (c.note_behind-note.ensures ∙ reading-made c.args.script.now c.args.line
    c.args.self.now.before c.args.self.now.seen c.args.self.now.clock c.reply_of-reply.result
    c.is_accepted-accepted.result c.is_accepted-accepted.ensures c.is_read-read.result
    c.is_read-read.ensures c.reading_if-reading.result c.reading_if-reading.ensures)
    (subst (λ (h : List Placed). IsProcess c.take_in-2.new.context c.args.script.now h
    c.take_in-2.new.self) c.requires.history c.in_ok-take_in-2.ensures.process)
    (c.in_ok-take_in-2.ensures.seen ∙ c.seen_before-seen.ensures)
    state previous is in
    let runs = c.in_ok-run_known.ensures.runs state previous
    (subst (λ (h : List Placed). IsThread c.take_in-2.new.context script h met state previous)
    (sym c.requires.history) thread) in
    runs-behind c.take_in.ensures.grows c.take_in-2.ensures.grows c.args.script.now c.args.self.now
    c.args.line c.is_placed-shared.result c.is_placed-shared.ensures
    c.take_in.new.self c.take_in-2.new.self
    (subst (λ (h : List Placed). IsProcess c.take_in.new.context c.args.script.now h
    c.take_in.new.self) c.requires.history c.in_ok-take_in.ensures.process)
    (c.in_ok-take_in.ensures.seen ∙ c.seen_first-first.ensures)
    c.reply_of-reply.result c.reply_of-reply.ensures c.note_behind-note.result
    (c.note_behind-note.ensures ∙ reading-made c.args.script.now c.args.line
    c.args.self.now.before c.args.self.now.seen c.args.self.now.clock c.reply_of-reply.result
    c.is_accepted-accepted.result c.is_accepted-accepted.ensures c.is_read-read.result
    c.is_read-read.ensures c.reading_if-reading.result c.reading_if-reading.ensures)
    (subst (λ (h : List Placed). IsProcess c.take_in-2.new.context c.args.script.now h
    c.take_in-2.new.self) c.requires.history c.in_ok-take_in-2.ensures.process)
    (c.in_ok-take_in-2.ensures.seen ∙ c.seen_before-seen.ensures)
    state previous is channel now c.is_accepted-accepted.result c.is_accepted-accepted.ensures
    had has
    (subst (λ (h : List Placed). RunsLine c.run_known.new.context script h
    c.run_known.new.thread channel line note had has state previous) c.requires.history
    (runs-earlier c.run_known.new.context script c.args.history.now c.run_known.new.thread channel
    line note had mid has state previous
    (λ rs h. g.met.T.Taker.stays _ _ _ _ h
    (Grows-trans _ _ _ c.take_in.ensures.grows c.take_in-2.ensures.grows)) runs))
    c.in_ok-run_known.ensures.process refl c.clock_behind-self.ensures c.count_behind-self.ensures
    refl
