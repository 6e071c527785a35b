use Rattle.std.proofs.Common.{◌≡◌, ◌+◌, ◌<◌, ◌≤◌, List, [], ◌++◌, drop, length, ap, subst, sym, refl}
use Rattle.std.proofs.Common.{◌∙◌, append-nil, arith}
use Rattle.std.specs.List.{All}
use Rattle.std.proofs.lemmas.List.Sums.{get_or-le-sum_by}
use Rattle.cal_context.proofs.CallerLemmas.{Grows-refl, Grows-trans, TakesMore-trans}
use Rattle.cal_context.specs.Taking.{TakesMore}
use Rattle.cal_run.proofs.BehindLemmas.{refused-drop_threads, refused-end_threads}
use Rattle.cal_run.proofs.BehindLemmas.{refused-few_threads, threads-drop_behind}
use Rattle.cal_run.proofs.BehindLemmas.{threads-end_behind}
use Rattle.cal_run.proofs.NumberLemmas.{AreNumbered-Grows}
use Rattle.cal_run.proofs.PlainLemmas.{history-long, total-next, total-room}
use Rattle.cal_run.specs.Behind.{taken_behind}
use Rattle.cal_run.specs.Plain.{plain_history}
use Rattle.cal_run.specs.Steps.{at_start}
use Rattle.cal_script.specs.declared.journal.Placed.{Placed}
use Rattle.cal_script.specs.Valid.{IsPlaced}
use Rattle.cal_run.proofs.plain_run.take_plain_channel.Goals as goal

pub loop-number-init : goal.loop-number-init
loop-number-init g c =
    let script = c.args.script.now in
    let long = history-long script 0 script.threads in
    record {
      numbered = c.requires.numbered;
      grows = Grows-refl _;
      count = omega (arith, long);
      so_far = (
        [],
        (λ rs had. subst (g.T.Taker.has_taken c.args.taker.now c.args.context.now)
            (sym (append-nil rs)) had),
        refl,
      );
      refused = omega arith;
      about = refl;
    }

pub run_behind-requires-clause-placed : goal.run_behind-requires-clause-placed
run_behind-requires-clause-placed g c =
    let script = c.args.script.now in
    let t = c.lines_of_thread-lines.result.now in
    let below : c.loop-number.number < length script.threads = omega arith in
    subst (All (IsPlaced script.attributes script.channels script.values))
    (sym (c.lines_of_thread-lines.ensures t))
    (c.requires.runnable.places c.loop-number.number t below)

pub run_behind-requires-clause-few : goal.run_behind-requires-clause-few
run_behind-requires-clause-few g c =
    let script = c.args.script.now in
    let t = c.lines_of_thread-lines.result.now in
    let below : c.loop-number.number < length script.threads = omega arith in
    let most = get_or-le-sum_by length script.threads c.loop-number.number t below in
    let same = ap length (c.lines_of_thread-lines.ensures t) in
    omega (arith, most, same, c.requires.runnable.few_lines)

pub run_behind-requires-clause-history : goal.run_behind-requires-clause-history
run_behind-requires-clause-history g c = c.as_slice.ensures ∙ c.in_ok-history.ensures

pub run_behind-requires-clause-room : goal.run_behind-requires-clause-room
run_behind-requires-clause-room g c =
    let script = c.args.script.now in
    let t = c.lines_of_thread-lines.result.now in
    let below : c.loop-number.number < length script.threads = omega arith in
    let all = ap (λ (h : List Placed). length h) (c.as_slice.ensures ∙ c.in_ok-history.ensures) in
    let room = total-room script c.loop-number.before (length (plain_history script))
    script.threads c.loop-number.number t below
    (c.lines_of_thread-lines.ensures t) c.loop-number.invariant.count in
    omega (arith, all, room)

pub returns-in_err-end-clause-grows : goal.returns-in_err-end-clause-grows
returns-in_err-end-clause-grows g c =
    Grows-trans _ _ _ c.loop-number.invariant.grows c.run_behind.ensures.grows

pub overflow_add-refused : goal.overflow_add-refused
overflow_add-refused g c =
    let script = c.args.script.now in
    let old = c.loop-number.invariant in
    let i = c.loop-number.number in
    let t = c.lines_of_thread-lines.result.now in
    let below : i < length script.threads = omega arith in
    let end = c.in_ok-end.ensures.ended in
    let next = refused-drop_threads script c.loop-number.before
    c.in_ok-end.end.before script.threads i t c.loop-number.refused
    c.in_ok-end.end.refused _ below (c.lines_of_thread-lines.ensures t) end.before end.refused
    old.refused in
    let few = refused-few_threads script 0 script.threads in
    let most = c.requires.runnable.few_lines in
    omega (arith, next, few, most)

pub loop-number-preserved : goal.loop-number-preserved
loop-number-preserved g c =
    let old = c.loop-number.invariant in
    let so_far = old.so_far in
    let script = c.args.script.now in
    let channel = c.args.channel.now in
    let i = c.loop-number.number in
    let t = c.lines_of_thread-lines.result.now in
    let is = c.lines_of_thread-lines.ensures t in
    let below : i < length script.threads = omega arith in
    let step = c.in_ok-end.ensures in
    let end = step.ended in
    let has_taken = g.T.Taker.has_taken in
    record {
      numbered = AreNumbered-Grows step.grows script c.args.numbers.now old.numbered;
      grows = Grows-trans _ _ _ old.grows step.grows;
      count = total-next script c.loop-number.before c.in_ok-end.end.before
          (length (plain_history script)) script.threads i t below is old.count end.before;
      so_far = (
        so_far.0 ++ taken_behind script channel c.loop-number.before 0 at_start 0 t,
        TakesMore-trans (has_taken c.args.taker.now c.args.context.now)
            (has_taken c.loop-number.taker c.loop-number.context)
            (has_taken c.run_behind.new.taker c.run_behind.new.context) so_far.0 _ so_far.1
            step.taken,
        threads-drop_behind script channel c.loop-number.before c.in_ok-end.end.before
            script.threads i t so_far.0 _ below is end.before so_far.2,
      );
      refused = refused-drop_threads script c.loop-number.before c.in_ok-end.end.before
          script.threads i t c.loop-number.refused c.in_ok-end.end.refused _ below is end.before
          end.refused old.refused;
      about = c.in_ok-end.ensures.about ∙ c.loop-number.invariant.about;
    }

pub returns-clause-taken : goal.returns-clause-taken
returns-clause-taken g c =
    let script = c.args.script.now in
    let so_far = c.loop-number.invariant.so_far in
    let has_taken = g.T.Taker.has_taken in
    let past : length script.threads ≤ c.loop-number.number = omega arith in
    subst (TakesMore (has_taken c.args.taker.now c.args.context.now)
    (has_taken c.loop-number.taker c.loop-number.context))
    (threads-end_behind script c.args.channel.now c.loop-number.before script.threads
    c.loop-number.number so_far.0 _ past so_far.2) so_far.1

pub returns-clause-refused : goal.returns-clause-refused
returns-clause-refused g c =
    let script = c.args.script.now in
    let past : length script.threads ≤ c.loop-number.number = omega arith in
    refused-end_threads script c.loop-number.before script.threads c.loop-number.number
    c.loop-number.refused _ past c.loop-number.invariant.refused

pub returns-clause-about : goal.returns-clause-about
returns-clause-about g c = c.loop-number.invariant.about
