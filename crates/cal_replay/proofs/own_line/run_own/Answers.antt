use Rattle.std.proofs.Common.{◌≡◌, ℕ, ◌+◌, ◌++◌, ◌∙◌, Bool, refl, sym, subst}
use Rattle.cal_process.specs.Operations.{history_of}
use Rattle.cal_replay.proofs.OwnLines.{is_due, own-runs, replies-there}
use Rattle.cal_replay.proofs.ReadingOn.{number-reads, own-read}
use Rattle.cal_replay.proofs.ShowingLemmas.{thread-reads}
use Rattle.cal_replay.specs.Steps.{HasReply, IsGiven}
use Rattle.cal_replay.specs.Workers.{script_of}
use Rattle.cal_notes.specs.Notes.{known_journal}
use Rattle.cal_run.specs.Lawful.{IsRead}
use Rattle.cal_run.specs.Lines.{line_at}
use Rattle.cal_run.specs.Steps.{acted_on}
use Rattle.cal_script.specs.declared.journal.LineNote.{LineNote}
use Rattle.cal_script.specs.declared.journal.Reply.TheVariants as reply
use Rattle.cal_thread.specs.declared.thread.Thread.{Thread}
use Rattle.std.specs.Prelude.{None, Some, unwrap_or}
use Rattle.cal_replay.proofs.own_line.run_own.Goals as goal

pub change_if-requires-clause-thread : goal.change_if-requires-clause-thread
change_if-requires-clause-thread g c =
    let t = c.requires.thread in
    let m = c.in_ok-met.ensures.meets t.0 t.1 t.2 t.3 in (
      t.0,
      t.1 ++ m.ops,
      t.2,
      thread-reads c.args.shared.now.common c.look.new.self c.show.new.runner t.0 (t.1 ++ m.ops)
          t.2 c.in_ok-show.ensures.reads
          (c.in_ok-show.ensures.state (t.1 ++ m.ops) t.2 m.kept.has) m.kept,
      subst (λ (n : ℕ). line_at (script_of c.args.shared.now) n (t.0 + 1) ≡ Some c.args.line)
          (sym (number-reads c.look.new.self c.show.new.runner c.in_ok-show.ensures.reads
          ∙ c.in_ok-met.ensures.number)) t.4,
    )

pub show-requires-clause-said : goal.show-requires-clause-said
show-requires-clause-said g c =
    let t = c.requires.thread in
    let m = c.in_ok-met.ensures.meets t.0 t.1 t.2 t.3 in
    record { h = t.1 ++ m.ops; state = t.2; has = m.kept.has; said = t.5 }

pub show-requires-clause-ready : goal.show-requires-clause-ready
show-requires-clause-ready g c =
    let r = c.requires.ready in (
      r.0,
      subst (λ (b : Bool). g.F.Keeper.ready (script_of c.args.shared.now) c.args.keeper.now b
          (r.0 + 1)) (sym c.in_ok-met.ensures.timed) r.1,
    )

pub reply_or_flush-requires-clause-found : goal.reply_or_flush-requires-clause-found
reply_or_flush-requires-clause-found g c =
    let t = c.requires.thread in
    let m = c.in_ok-met.ensures.meets t.0 t.1 t.2 t.3 in
    let script = script_of c.args.shared.now in
    let line = c.args.line in
    let note : LineNote = record { reply = reply.Done; seen = 0; reading = None } in
    subst (HasReply line) (m.found note)
    (replies-there script (acted_on script (history_of (t.1 ++ m.ops)) line note t.2) line)

pub reply_or_flush-requires-clause-ready : goal.reply_or_flush-requires-clause-ready
reply_or_flush-requires-clause-ready g c =
    let r = c.requires.ready in
    let ready = subst (λ (b : Bool). g.F.Keeper.ready (script_of c.args.shared.now)
    c.args.keeper.now b (r.0 + 1)) (sym c.in_ok-met.ensures.timed) r.1 in (
      script_of c.args.shared.now,
      c.look.new.self.timed,
      r.0,
      c.in_ok-show.ensures.ready r.0 ready,
      c.requires.placed,
    )

pub returns-clause-runs : goal.returns-clause-runs
returns-clause-runs g c = (
  record {
    at = c.show.new.runner;
    told = record {
      line = c.args.line;
      accepted = c.in_ok-met.met.accepted;
      reading = unwrap_or c.read_line-reading.result 0;
    };
    line_is = refl;
    between = c.show.new.self;
    shown = subst (λ (reading : ℕ). g.F.Keeper.shown c.args.shared.now.common c.args.keeper.now
        c.show.new.self c.show.new.runner (record {
          line = c.args.line;
          accepted = c.in_ok-met.met.accepted;
          reading = reading;
        })) c.unwrap_or.ensures c.in_ok-show.ensures.shown;
    flushes = c.in_ok-reply.ensures.flushes;
  },
  (λ done h state at w.
      let shared = c.args.shared.now in
      let old = c.args.thread.now in
      let looked = c.look.new.self in
      let mid = c.show.new.runner in
      let reads = c.in_ok-show.ensures.reads in
      let new = c.change_if.new.thread in
      let line = c.args.line in
      let met = c.in_ok-met.met in
      let reading = c.read_line-reading.result in
      let number = number-reads looked mid reads ∙ c.in_ok-met.ensures.number in
      let m = own-read shared.common old looked mid line h state reads
      c.in_ok-show.ensures.state met done (c.in_ok-met.ensures.meets done h state w) in
      let given = c.in_ok-reply.reply in
      own-runs shared old mid new line met given reading done h state c.requires.own w m
      number
      (subst (λ (n : ℕ). IsGiven n met.reply given)
      (c.in_ok-show.ensures.thread ∙ c.requires.keeper) c.in_ok-reply.ensures.reply)
      (subst (λ (t : Thread). IsRead (script_of shared)
      (known_journal shared.real (history_of h ++ history_of m.ops))
      (is_due (script_of shared) line met.reply) t.clock reading) (sym reads.same)
      (c.read_line-reading.ensures.read (history_of h ++ history_of m.ops)))
      c.in_ok-change_if.ensures.process
      (λ note is k. c.in_ok-change_if.ensures.changed done (h ++ m.ops) state note
      (is ∙ sym c.unwrap_or.ensures)
      (subst (λ (n : ℕ). line_at (script_of shared) n (done + 1) ≡ Some line) (sym number) at) k) c.in_ok-change_if.ensures.words (
        (λ i x s. reads.learns.more i x (c.in_ok-met.ensures.learns i x s)),
        c.in_ok-change_if.ensures.learns,
      )),
)
