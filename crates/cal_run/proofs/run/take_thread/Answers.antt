use Rattle.std.proofs.Common.{[], ◌<◌, ◌++◌, length, get_or, ap, subst, sym, refl, ◌∙◌}
use Rattle.std.proofs.Common.{append-nil, arith}
use Rattle.std.specs.Prelude.{unwrap_or}
use Rattle.cal_context.proofs.CallerLemmas.{Grows-refl, Grows-trans, TakesMore-trans}
use Rattle.cal_run.proofs.LineLemmas.{start-thread}
use Rattle.cal_run.proofs.NumberLemmas.{AreNumbered-Grows}
use Rattle.cal_run.proofs.RunLemmas.{can_run, order-drop, seen_before-within, taken_from-drop}
use Rattle.cal_run.proofs.RunLemmas.{taken_from-end}
use Rattle.cal_run.specs.Steps.{at_start, previous_after, state_after, taken_in}
use Rattle.cal_script.specs.Valid.{IsPlaced}
use Rattle.cal_run.proofs.run.take_thread.Goals as goal

pub loop-place-init : goal.loop-place-init
loop-place-init g c =
    let start = c.new-thread.ensures in
    record {
      numbered = c.requires.numbered;
      grows = Grows-refl _;
      timed = start.timed;
      so_far = (
        at_start,
        unwrap_or c.args.note.now.start 0,
        0,
        [],
        start-thread c.args.context.now c.args.script.now c.args.history.now c.new-thread.result
            (unwrap_or c.args.note.now.start 0) start.board start.readings start.process start.count
            (start.previous ∙ c.unwrap_or-start.ensures),
        (let count = start.count in omega (arith, count)),
        c.requires.order,
        (λ rs had. subst (g.T.Taker.has_taken c.args.taker.now c.args.context.now)
            (sym (append-nil rs)) had),
        refl,
      );
      about = refl;
    }

pub run_line-requires-clause-can : goal.run_line-requires-clause-can
run_line-requires-clause-can g c =
    let script = c.args.script.now in
    let history = c.args.history.now in
    let so_far = c.loop-place.invariant.so_far in
    let l = c.noted_at-line.result.0 in
    let n = c.noted_at-line.result.1 in
    let order = order-drop script history c.args.lines.now c.args.note.now.lines c.loop-place.place
    l n (c.noted_at-line.ensures.line l)
    (c.noted_at-line.ensures.note n
    ∙ ap (λ ns. get_or ns c.loop-place.place n) c.as_slice-notes.ensures)
    (omega (arith, c.loop-place-test.true, c.lines_to_run-place-end.ensures.within))
    c.requires.noted so_far.2 so_far.6 in
    can_run script history c.loop-place.thread so_far.2 l n so_far.5 order.0

pub run_line-requires-clause-placed : goal.run_line-requires-clause-placed
run_line-requires-clause-placed g c =
    let script = c.args.script.now in
    let l = c.noted_at-line.result.0 in
    subst (IsPlaced script.attributes script.channels script.values)
    (sym (c.noted_at-line.ensures.line l))
    (c.requires.placed c.loop-place.place l
    (omega (arith, c.loop-place-test.true, c.lines_to_run-place-end.ensures.within)))

pub returns-in_err-run_line-clause-grows : goal.returns-in_err-run_line-clause-grows
returns-in_err-run_line-clause-grows g c =
    Grows-trans _ _ _ c.loop-place.invariant.grows c.run_line.ensures.grows

pub loop-place-preserved : goal.loop-place-preserved
loop-place-preserved g c =
    let old = c.loop-place.invariant in
    let so_far = old.so_far in
    let script = c.args.script.now in
    let history = c.args.history.now in
    let state = so_far.0 in
    let previous = so_far.1 in
    let i = c.loop-place.place in
    let l = c.noted_at-line.result.0 in
    let n = c.noted_at-line.result.1 in
    let line = c.noted_at-line.ensures.line l in
    let note = c.noted_at-line.ensures.note n ∙ ap (λ ns. get_or ns i n) c.as_slice-notes.ensures in
    let below : i < length c.args.lines.now =
    omega (arith, c.loop-place-test.true, c.lines_to_run-place-end.ensures.within) in
    let order = order-drop script history c.args.lines.now c.args.note.now.lines i l n line note
    below c.requires.noted
    so_far.2 so_far.6 in
    let runs = c.in_ok-run_line.ensures.runs state previous so_far.4 in
    let grows = c.run_line.ensures.grows in
    let has_taken = g.T.Taker.has_taken in
    record {
      numbered = AreNumbered-Grows grows script c.args.numbers.now old.numbered;
      grows = Grows-trans _ _ _ old.grows grows;
      timed = c.in_ok-run_line.ensures.timed ∙ old.timed;
      so_far = (
        state_after script history l n state,
        previous_after script history l n state c.args.channel.now previous,
        n.seen,
        so_far.3 ++ taken_in script history l n state c.args.channel.now previous,
        runs.kept,
        (let seen = c.in_ok-run_line.ensures.seen in
            let within = seen_before-within script history l n in omega (arith, seen, within)),
        order.1,
        TakesMore-trans (has_taken c.args.taker.now c.args.context.now)
            (has_taken c.loop-place.taker c.loop-place.context)
            (has_taken c.run_line.new.taker c.run_line.new.context) so_far.3 _ so_far.7 runs.taken,
        taken_from-drop script history c.args.lines.now c.args.note.now.lines i l n line note
            below c.requires.noted
            c.args.channel.now state previous so_far.3 _ so_far.8,
      );
      about = c.in_ok-run_line.ensures.about ∙ c.loop-place.invariant.about;
    }

pub returns-clause-taken : goal.returns-clause-taken
returns-clause-taken g c =
    let so_far = c.loop-place.invariant.so_far in
    let has_taken = g.T.Taker.has_taken in
    taken_from-end c.args.script.now c.args.history.now c.args.lines.now c.args.note.now.lines
    c.loop-place.place c.args.channel.now
    so_far.0 so_far.1 (has_taken c.args.taker.now c.args.context.now)
    (has_taken c.loop-place.taker c.loop-place.context) so_far.3 _
    (λ k d past. c.lines_to_run-place-end.ensures.behind k d
    (omega (arith, past, c.loop-place-test.false)))
    so_far.8 so_far.7

pub returns-clause-about : goal.returns-clause-about
returns-clause-about g c = c.loop-place.invariant.about
