use Rattle.std.proofs.Common.{◌≡◌, ℕ, ◌+◌, ◌<◌, ◌≤◌, List, drop, length, ap, subst, sym, arith}
use Rattle.std.specs.Prelude.{flat_map, zip}
use Rattle.std.specs.List.{All}
use Rattle.std.proofs.lemmas.List.{take_all}
use Rattle.cal_context.proofs.CallerLemmas.{Grows-refl, Grows-trans}
use Rattle.cal_run.proofs.NumberLemmas.{AreNumbered-Grows}
use Rattle.cal_run.proofs.PathLemmas.{holds-next, holds-none}
use Rattle.cal_run.proofs.PlainLemmas.{drop-past, history-long, total, total-next, total-room}
use Rattle.cal_run.proofs.WalkingLemmas.{taken-drop_threads, taken-end_threads, taken_by-few}
use Rattle.cal_run.proofs.WalkingLemmas.{thread-few}
use Rattle.cal_run.specs.Holding.{AreHeld, HoldsPaths}
use Rattle.cal_run.specs.Paths.{held_by_thread}
use Rattle.cal_run.specs.Plain.{plain_history, threads_from}
use Rattle.cal_run.specs.Walking.{every, has_trace, held_to, taken_by}
use Rattle.cal_script.specs.declared.journal.Placed.{Placed}
use Rattle.cal_script.specs.declared.script.Line.{Line}
use Rattle.cal_script.specs.Valid.{IsPlaced}
use Rattle.cal_run.proofs.walking.walk_threads.Goals as goal

pub loop-number-init : goal.loop-number-init
loop-number-init c =
    let script = c.args.script.now in
    let was = c.args.walk.now in
    let none = c.requires.start in
    let long = history-long script 0 script.threads in
    record {
      numbered = c.requires.numbered;
      grows = Grows-refl _;
      process = c.requires.process;
      held = c.requires.held;
      count = omega (arith, none, long);
      own = holds-none (Grows-refl _) was.own.nodes;
      in_all = ap (λ (n : ℕ). was.in_all + taken_by script every
          (zip script.threads (threads_from script n script.threads))) none;
      traced = ap (λ (n : ℕ). was.traced + taken_by script has_trace
          (zip script.threads (threads_from script n script.threads))) none;
    }

pub walk_thread-requires-clause-placed : goal.walk_thread-requires-clause-placed
walk_thread-requires-clause-placed c =
    let script = c.args.script.now in
    let t = c.lines_of_thread-lines.result.now in
    let below : c.loop-number.number < length script.threads = omega arith in
    subst (All (IsPlaced script.attributes script.channels script.values))
    (sym (c.lines_of_thread-lines.ensures t))
    (c.requires.runnable.places c.loop-number.number t below)

pub walk_thread-requires-clause-room : goal.walk_thread-requires-clause-room
walk_thread-requires-clause-room c =
    let script = c.args.script.now in
    let t = c.lines_of_thread-lines.result.now in
    let below : c.loop-number.number < length script.threads = omega arith in
    let all = ap (λ (h : List Placed). length h) c.requires.history in
    let room = total-room script c.loop-number.walk.process.count (length (plain_history script))
    script.threads c.loop-number.number t below
    (c.lines_of_thread-lines.ensures t) c.loop-number.invariant.count in
    omega (arith, all, room)

pub walk_thread-requires-clause-few : goal.walk_thread-requires-clause-few
walk_thread-requires-clause-few c =
    let script = c.args.script.now in
    let t = c.lines_of_thread-lines.result.now in
    let below : c.loop-number.number < length script.threads = omega arith in
    let runnable = c.requires.runnable in
    let long = thread-few script.threads c.loop-number.number t below
    (c.lines_of_thread-lines.ensures t) in
    let few = taken_by-few script runnable.few_channels every script.threads
    (threads_from script 0 script.threads) in
    omega (arith, long, few, c.loop-number.invariant.in_all, c.requires.none, runnable.few_lines)

pub walk_thread-requires-clause-few_traced : goal.walk_thread-requires-clause-few_traced
walk_thread-requires-clause-few_traced c =
    let script = c.args.script.now in
    let t = c.lines_of_thread-lines.result.now in
    let below : c.loop-number.number < length script.threads = omega arith in
    let runnable = c.requires.runnable in
    let long = thread-few script.threads c.loop-number.number t below
    (c.lines_of_thread-lines.ensures t) in
    let few = taken_by-few script runnable.few_channels has_trace script.threads
    (threads_from script 0 script.threads) in
    omega (
      arith,
      long,
      few,
      c.loop-number.invariant.traced,
      c.requires.none_traced,
      runnable.few_lines,
    )

pub returns-in_err-walk_thread-clause-grows : goal.returns-in_err-walk_thread-clause-grows
returns-in_err-walk_thread-clause-grows c =
    Grows-trans _ _ _ c.loop-number.invariant.grows c.walk_thread.ensures.grows

pub loop-number-preserved : goal.loop-number-preserved
loop-number-preserved c =
    let script = c.args.script.now in
    let old = c.loop-number.invariant in
    let i = c.loop-number.number in
    let t = c.lines_of_thread-lines.result.now in
    let is = c.lines_of_thread-lines.ensures t in
    let below : i < length script.threads = omega arith in
    let step = c.in_ok-walk_thread.ensures in
    let grows = c.walk_thread.ensures.grows in
    let was = c.loop-number.walk in
    let now = c.walk_thread.new.walk in
    let before = c.loop-number.context in
    let after = c.walk_thread.new.context in
    record {
      numbered = AreNumbered-Grows grows script c.args.numbers.now old.numbered;
      grows = Grows-trans _ _ _ old.grows grows;
      process = step.process;
      held = step.held;
      count = total-next script was.process.count now.process.count
          (length (plain_history script)) script.threads i t below is old.count step.count;
      own = holds-next (held_by_thread script) script.threads i t c.args.context.now before after
          c.args.walk.now.own.nodes was.own.nodes now.own.nodes below old.own
          (subst (λ (ls : List Line). HoldsPaths before after was.own.nodes now.own.nodes
          (held_by_thread script ls)) is step.own);
      in_all = taken-drop_threads script every was.process.count now.process.count script.threads
          i t was.in_all now.in_all _ below is step.count step.in_all old.in_all;
      traced = taken-drop_threads script has_trace was.process.count now.process.count
          script.threads i t was.traced now.traced _ below is step.count step.traced old.traced;
    }

pub returns-clause-own : goal.returns-clause-own
returns-clause-own c =
    let script = c.args.script.now in
    let past : length script.threads ≤ c.loop-number.number = omega arith in
    subst (λ (ts : List (List Line)). HoldsPaths c.args.context.now c.loop-number.context
    c.args.walk.now.own.nodes c.loop-number.walk.own.nodes
    (flat_map (held_by_thread script) ts))
    (take_all c.loop-number.number script.threads past) c.loop-number.invariant.own

pub returns-clause-in_all : goal.returns-clause-in_all
returns-clause-in_all c =
    let script = c.args.script.now in
    let past : length script.threads ≤ c.loop-number.number = omega arith in
    let was = c.loop-number.walk in
    taken-end_threads script every was.process.count script.threads c.loop-number.number was.in_all
    _ past c.loop-number.invariant.in_all

pub returns-clause-traced : goal.returns-clause-traced
returns-clause-traced c =
    let script = c.args.script.now in
    let past : length script.threads ≤ c.loop-number.number = omega arith in
    let was = c.loop-number.walk in
    taken-end_threads script has_trace was.process.count script.threads c.loop-number.number
    was.traced _ past c.loop-number.invariant.traced

pub returns-clause-held : goal.returns-clause-held
returns-clause-held c =
    let script = c.args.script.now in
    let history = c.args.history.now in
    let past : length script.threads ≤ c.loop-number.number = omega arith in
    let was = c.loop-number.walk in
    let none : total script (drop c.loop-number.number script.threads) ≡ 0 =
    ap (λ (ts : List (List Line)). total script ts)
    (drop-past script.threads c.loop-number.number past) in
    let all = ap (λ (h : List Placed). length h) c.requires.history in
    let left = c.loop-number.invariant.count in
    let whole : was.process.count ≡ length history = omega (arith, none, all, left) in
    subst (λ (n : ℕ). AreHeld c.loop-number.context was.placed.nodes (held_to script history n))
    whole c.loop-number.invariant.held
