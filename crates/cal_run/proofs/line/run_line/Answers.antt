use Rattle.std.proofs.Common.{◌≡◌, ap, ◌∙◌}
use Rattle.cal_context.proofs.CallerLemmas.{Grows-trans}
use Rattle.cal_run.proofs.LineLemmas.{runs-earlier, seen-is, seen-thread}
use Rattle.cal_run.proofs.NumberLemmas.{AreNumbered-Grows}
use Rattle.cal_run.specs.Steps.{is_accepted}
use Rattle.cal_run.proofs.line.run_line.Goals as goal

pub run_known-requires-clause-numbered : goal.run_known-requires-clause-numbered
run_known-requires-clause-numbered g c =
    AreNumbered-Grows c.take_in.ensures.grows c.args.script.now c.args.numbers.now
    c.requires.numbered

pub run_known-requires-clause-thread : goal.run_known-requires-clause-thread
run_known-requires-clause-thread g c =
    let was = c.requires.thread in (
      was.0,
      was.1,
      seen-thread c.take_in.ensures.grows c.args.script.now c.args.history.now c.args.thread.now
          c.take_in.new.self was.0 was.1 was.2 c.in_ok-take_in.ensures.process,
    )

pub run_known-requires-clause-seen : goal.run_known-requires-clause-seen
run_known-requires-clause-seen g c =
    c.in_ok-take_in.ensures.seen
    ∙ seen-is c.args.script.now c.args.history.now c.args.line c.args.note
    c.is_process_line-shared.result c.seen_before-seen.result c.is_process_line-shared.ensures
    c.seen_before-seen.ensures

pub run_known-requires-clause-answer : goal.run_known-requires-clause-answer
run_known-requires-clause-answer g c =
    c.is_accepted-accepted.ensures ∙ ap is_accepted c.reply_of-reply.ensures

pub returns-clause-runs : goal.returns-clause-runs
returns-clause-runs g c = λ state previous kept.
    let has_taken = g.T.Taker.has_taken in
    runs-earlier c.run_known.new.context c.args.script.now c.args.history.now
    c.run_known.new.thread c.args.channel.now c.args.line c.args.note
    (has_taken c.args.taker.now c.args.context.now)
    (has_taken c.args.taker.now c.take_in.new.context)
    (has_taken c.run_known.new.taker c.run_known.new.context) state previous
    (λ rs h. g.met.T.Taker.stays _ _ _ _ h c.take_in.ensures.grows)
    (c.in_ok-run_known.ensures.runs state previous
    (seen-thread c.take_in.ensures.grows c.args.script.now c.args.history.now c.args.thread.now
    c.take_in.new.self state previous kept c.in_ok-take_in.ensures.process))

pub returns-clause-grows : goal.returns-clause-grows
returns-clause-grows g c = Grows-trans _ _ _ c.take_in.ensures.grows c.run_known.ensures.grows

pub returns-in_err-run_known-clause-grows : goal.returns-in_err-run_known-clause-grows
returns-in_err-run_known-clause-grows g c =
    Grows-trans _ _ _ c.take_in.ensures.grows c.run_known.ensures.grows
