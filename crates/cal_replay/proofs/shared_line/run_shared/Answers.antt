use Rattle.std.proofs.Common.{◌+◌, ◌++◌, ◌∙◌, Bool, refl, sym, subst}
use Rattle.cal_process.specs.Operations.{history_of}
use Rattle.cal_notes.specs.Notes.{known_journal}
use Rattle.cal_replay.proofs.OwnLines.{board-flushes, is_due, shared-replies}
use Rattle.cal_replay.proofs.ReadingOn.{number-reads, placed-reads, shared-read}
use Rattle.cal_replay.proofs.SharedLines.{shared-runs}
use Rattle.cal_replay.specs.Steps.{Runs, noted_with}
use Rattle.cal_replay.specs.declared.showing.ShownLine.{ShownLine}
use Rattle.cal_run.specs.Steps.{is_accepted}
use Rattle.std.specs.Prelude.{unwrap_or}
use Rattle.cal_replay.specs.Workers.{script_of}
use Rattle.cal_run.specs.Lawful.{IsRead}
use Rattle.cal_thread.specs.declared.thread.Thread.{Thread}
use Rattle.cal_script.specs.declared.journal.Reply.{Reply}
use Rattle.cal_replay.proofs.shared_line.run_shared.Goals as goal

pub take_own-requires-clause-placed : goal.take_own-requires-clause-placed
take_own-requires-clause-placed g c =
    let t = c.requires.thread in
    let m = c.in_ok-reply.ensures.meets t.0 t.1 t.2 t.3 t.4 in (
      c.args.op,
      t.1 ++ m.ops,
      t.2,
      placed-reads c.args.shared.now.common c.place.new.self c.show.new.runner c.args.op
          (t.1 ++ m.ops) t.2 c.in_ok-show.ensures.reads
          (c.in_ok-show.ensures.state (t.1 ++ m.ops) t.2 m.placed.has) m.placed,
    )

pub show-requires-clause-said : goal.show-requires-clause-said
show-requires-clause-said g c =
    let t = c.requires.thread in
    let m = c.in_ok-reply.ensures.meets t.0 t.1 t.2 t.3 t.4 in
    record { h = t.1 ++ m.ops; state = t.2; has = m.placed.has; said = t.5 }

pub show-requires-clause-ready : goal.show-requires-clause-ready
show-requires-clause-ready g c =
    let r = c.requires.ready in (
      r.0,
      subst (λ (b : Bool). g.F.Keeper.ready (script_of c.args.shared.now) c.args.keeper.now b
          (r.0 + 1)) (sym c.in_ok-reply.ensures.timed) r.1,
    )

pub returns-clause-runs : goal.returns-clause-runs
returns-clause-runs g c = (
  record {
    at = c.show.new.runner;
    told = record {
      line = c.args.line;
      accepted = is_accepted c.in_ok-reply.reply;
      reading = unwrap_or c.read_line-reading.result 0;
    };
    line_is = refl;
    between = c.show.new.self;
    shown = subst (g.F.Keeper.shown c.args.shared.now.common c.args.keeper.now
        c.show.new.self c.show.new.runner) (λ i. record {
          line = c.args.line;
          accepted = c.is_accepted.ensures i;
          reading = c.unwrap_or.ensures i;
        }) c.in_ok-show.ensures.shown;
    flushes = board-flushes g.F.Keeper.flushed c.show.new.self c.args.line
        c.unwrap_or-given.result
        (shared-replies (script_of c.args.shared.now) c.args.line c.unwrap_or-given.result
        c.requires.shared_line);
  },
  (λ done h state w is.
      let shared = c.args.shared.now in
      let old = c.args.thread.now in
      let placed = c.place.new.self in
      let mid = c.show.new.runner in
      let reads = c.in_ok-show.ensures.reads in
      let new = c.take_own.new.self in
      let line = c.args.line in
      let op = c.args.op in
      let told : ShownLine = record {
        line = line;
        accepted = is_accepted c.in_ok-reply.reply;
        reading = unwrap_or c.read_line-reading.result 0;
      } in
      let answer = c.in_ok-reply.reply in
      let reading = c.read_line-reading.result in
      let m = shared-read shared.common old placed mid line h state reads
      c.in_ok-show.ensures.state op answer (c.in_ok-reply.ensures.meets done h state w is) in
      let t = c.in_ok-take_own.ensures.takes op (h ++ m.ops) state m.placed in
      subst (λ (r : Reply). Runs shared old mid new told line
      (noted_with (record { reply = r; reading = reading }) new) done h state)
      (sym c.unwrap_or-given.ensures)
      (shared-runs shared old mid new line op answer reading done h state c.requires.shared_line
      c.requires.own is (number-reads placed mid reads ∙ c.in_ok-reply.ensures.number) w m t
      (subst (λ (t : Thread). IsRead (script_of shared) (known_journal shared.real (history_of h))
      (is_due (script_of shared) line answer) t.clock reading) (sym reads.same)
      (c.read_line-reading.ensures.read (history_of h))) (
        (λ i x s. reads.learns.more i x (c.in_ok-reply.ensures.learns i x s)),
        c.in_ok-take_own.ensures.learns,
      ))),
)
