use Rattle.std.proofs.Common.{◌≡◌, ◌+◌, ◌<◌, ◌≤◌, List, [], ◌++◌, drop, length, ap, subst, sym, refl}
use Rattle.std.proofs.Common.{◌∙◌, append-nil, arith}
use Rattle.std.specs.Prelude.{if◌then◌else◌}
use Rattle.cal_context.proofs.CallerLemmas.{Grows-refl, Grows-trans, TakesMore-trans}
use Rattle.cal_context.specs.Taking.{TakesMore}
use Rattle.cal_run.proofs.BehindLemmas.{behind-drop, behind-end, refused-drop, refused-end}
use Rattle.cal_run.proofs.BehindLemmas.{one-most, refused-few, start-behind}
use Rattle.cal_run.proofs.LineLemmas.{start-thread}
use Rattle.cal_run.proofs.NumberLemmas.{AreNumbered-Grows}
use Rattle.cal_run.proofs.PlainLemmas.{count-drop, count-end, room-left}
use Rattle.cal_run.specs.Behind.{taken_behind}
use Rattle.cal_run.specs.Lawful.{process_lines}
use Rattle.cal_run.specs.Plain.{note_of, notes_from, plain_history}
use Rattle.cal_run.specs.Refused.{is_refused, refused_of}
use Rattle.cal_run.specs.Steps.{at_start, previous_after, state_after, taken_in}
use Rattle.cal_script.specs.Valid.{IsPlaced}
use Rattle.cal_run.proofs.plain_run.run_behind.Goals as goal

pub loop-place-init : goal.loop-place-init
loop-place-init g c =
    let script = c.args.script.now in
    let start = c.new-behind.ensures in
    record {
      numbered = c.requires.numbered;
      grows = Grows-refl _;
      timed = start.timed;
      count = (let before = start.before in omega (arith, before));
      so_far = (
        at_start,
        0,
        [],
        start-behind c.args.context.now script c.new-behind.result c.args.before
            (start-thread c.args.context.now script (plain_history script)
            c.new-behind.result.thread 0 start.board start.readings start.process start.count
            start.previous) start.count start.clock start.seen start.before start.timers,
        (λ rs had. subst (g.T.Taker.has_taken c.args.taker.now c.args.context.now)
            (sym (append-nil rs)) had),
        (λ j. taken_behind script c.args.channel.now (start.before j) (start.seen j) at_start 0
            c.args.lines.now),
        (let same : refused_of (notes_from script c.new-behind.result.before
            c.new-behind.result.seen at_start c.args.lines.now)
            ≡ refused_of (notes_from script c.args.before 0 at_start c.args.lines.now) =
            (λ j. refused_of (notes_from script (start.before j) (start.seen j) at_start
            c.args.lines.now)) in
            omega (arith, same)),
      );
      about = refl;
    }

pub run_line-requires-clause-placed : goal.run_line-requires-clause-placed
run_line-requires-clause-placed g c =
    let script = c.args.script.now in
    let l = c.line_in-line.result in
    subst (IsPlaced script.attributes script.channels script.values)
    (sym (c.line_in-line.ensures l))
    (c.requires.placed c.loop-place.place l c.loop-place-test.true)

pub run_line-requires-clause-behind : goal.run_line-requires-clause-behind
run_line-requires-clause-behind g c =
    let so_far = c.loop-place.invariant.so_far in (so_far.0, so_far.1, so_far.3)

pub run_line-requires-clause-within : goal.run_line-requires-clause-within
run_line-requires-clause-within g c =
    let count = c.loop-place.invariant.count in
    let room = c.requires.room in
    omega (arith, count, room)

pub run_line-requires-clause-room : goal.run_line-requires-clause-room
run_line-requires-clause-room g c =
    let l = c.line_in-line.result in
    room-left c.args.script.now c.loop-place.behind.before c.args.before
    (length c.args.history.now) c.args.lines.now
    c.loop-place.place l c.loop-place-test.true (c.line_in-line.ensures l)
    c.loop-place.invariant.count c.requires.room

pub returns-in_err-reply-clause-grows : goal.returns-in_err-reply-clause-grows
returns-in_err-reply-clause-grows g c =
    Grows-trans _ _ _ c.loop-place.invariant.grows c.run_line.ensures.grows

-- no more lines are refused than there are
pub overflow_add-refused : goal.overflow_add-refused
overflow_add-refused g c =
    let few = refused-few c.args.script.now c.args.before 0 at_start c.args.lines.now in
    let left = c.loop-place.invariant.so_far.6 in
    let one = one-most (is_refused c.in_ok-reply.reply) c.refusals-refused.result
    c.refusals-refused.ensures in
    let most = c.requires.few in
    omega (arith, few, left, one, most)

pub loop-place-preserved : goal.loop-place-preserved
loop-place-preserved g c =
    let old = c.loop-place.invariant in
    let so_far = old.so_far in
    let script = c.args.script.now in
    let channel = c.args.channel.now in
    let lines = c.args.lines.now in
    let i = c.loop-place.place in
    let l = c.line_in-line.result in
    let at = c.line_in-line.ensures l in
    let state = so_far.0 in
    let previous = so_far.1 in
    let was = c.loop-place.behind in
    let step = c.in_ok-reply.ensures in
    let runs = step.runs state previous so_far.3 in
    let note = note_of script was.before was.seen state l in
    let after = state_after script (plain_history script) l note state in
    let next = previous_after script (plain_history script) l note state channel previous in
    let grows = step.grows in
    let has_taken = g.T.Taker.has_taken in
    let one = c.refusals-refused.ensures
    ∙ ap (λ r. if is_refused r then 1 else 0) runs.answered in
    record {
      numbered = AreNumbered-Grows grows script c.args.numbers.now old.numbered;
      grows = Grows-trans _ _ _ old.grows grows;
      timed = step.timed ∙ old.timed;
      count = ap (λ n. n + length (process_lines script (drop (i + 1) lines))) step.before
          ∙ count-drop script was.before lines i l c.loop-place-test.true at
          ∙ old.count;
      so_far = (
        after,
        next,
        so_far.2 ++ taken_in script (plain_history script) l note state channel previous,
        runs.kept,
        TakesMore-trans (has_taken c.args.taker.now c.args.context.now)
            (has_taken c.loop-place.taker c.loop-place.context)
            (has_taken c.run_line.new.taker c.run_line.new.context) so_far.2 _ so_far.4 runs.taken,
        (λ j. (so_far.2 ++ taken_in script (plain_history script) l note state channel previous)
            ++ taken_behind script channel (step.before j) (runs.seen j) after next
            (drop (i + 1) lines))
            ∙ behind-drop script channel was.before was.seen state previous lines i l so_far.2 _
            c.loop-place-test.true at so_far.5,
        (λ j. (c.loop-place.refused + c.refusals-refused.result) + refused_of (notes_from script
            (step.before j) (runs.seen j) after (drop (i + 1) lines)))
            ∙ refused-drop script was.before was.seen state lines i l c.loop-place.refused
            c.refusals-refused.result _ c.loop-place-test.true at one so_far.6,
      );
      about = c.in_ok-reply.ensures.about ∙ c.loop-place.invariant.about;
    }

pub returns-clause-taken : goal.returns-clause-taken
returns-clause-taken g c =
    let so_far = c.loop-place.invariant.so_far in
    let has_taken = g.T.Taker.has_taken in
    let was = c.loop-place.behind in
    subst (TakesMore (has_taken c.args.taker.now c.args.context.now)
    (has_taken c.loop-place.taker c.loop-place.context))
    (behind-end c.args.script.now c.args.channel.now was.before was.seen so_far.0 so_far.1
    c.args.lines.now c.loop-place.place so_far.2 _ c.loop-place-test.false so_far.5) so_far.4

pub returns-clause-ended : goal.returns-clause-ended
returns-clause-ended g c =
    let old = c.loop-place.invariant in
    let was = c.loop-place.behind in
    record {
      before = count-end c.args.script.now was.before c.args.before c.args.lines.now
          c.loop-place.place c.loop-place-test.false old.count;
      refused = refused-end c.args.script.now was.before was.seen old.so_far.0 c.args.lines.now
          c.loop-place.place c.loop-place.refused _ c.loop-place-test.false old.so_far.6;
    }

pub returns-clause-about : goal.returns-clause-about
returns-clause-about g c = c.loop-place.invariant.about
