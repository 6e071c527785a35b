use Rattle.std.proofs.Common.{◌≡◌, ◌+◌, [], ◌++◌, drop, length, map, ap, subst, sym, refl, ◌∙◌}
use Rattle.std.proofs.Common.{arith}
use Rattle.std.specs.Prelude.{sum_by, zip}
use Rattle.cal_board.specs.Blackboard.{Blackboard, nothing_open}
use Rattle.cal_context.proofs.CallerLemmas.{Grows-refl, Grows-trans}
use Rattle.cal_context.specs.declared.numbers.NodeNumber.{NodeNumber}
use Rattle.cal_run.proofs.LineLemmas.{nothing-holds}
use Rattle.cal_run.proofs.NumberLemmas.{AreNumbered-Grows}
use Rattle.cal_run.proofs.PathLemmas.{held_from-drop, held_from-end, holds-both, holds-none}
use Rattle.cal_run.proofs.PathLemmas.{own-board}
use Rattle.cal_run.proofs.PlainLemmas.{count-drop, count-end, room-left}
use Rattle.cal_run.proofs.WalkingLemmas.{taken-drop, taken-end, takers-few}
use Rattle.cal_run.specs.Held.{Holds}
use Rattle.cal_run.specs.Holding.{HoldsPaths}
use Rattle.cal_run.specs.Lawful.{process_lines}
use Rattle.cal_run.specs.Paths.{held_behind, held_from, own_operation}
use Rattle.cal_run.specs.Plain.{note_of, notes_from, plain_history}
use Rattle.cal_run.specs.Steps.{at_start, state_after}
use Rattle.cal_run.specs.Walking.{every, has_trace, takers}
use Rattle.cal_script.specs.Valid.{IsPlaced}
use Rattle.cal_value.specs.declared.variant.Variant.{Variant}
use Rattle.cal_run.proofs.walking.walk_thread.Goals as goal

pub loop-place-init : goal.loop-place-init
loop-place-init c =
    let t = c.args.context.now in
    let script = c.args.script.now in
    record {
      numbered = c.requires.numbered;
      grows = Grows-refl t;
      process = c.requires.process;
      held = c.requires.held;
      count = refl;
      few = omega arith;
      few_traced = omega arith;
      so_far = (
        at_start,
        0,
        [],
        subst (λ (h : Blackboard NodeNumber). Holds t script h nothing_open)
            (sym c.new-board.ensures) (nothing-holds t script),
        holds-none (Grows-refl t) c.args.walk.now.own.nodes,
        refl,
        refl,
        refl,
      );
    }

pub walk_line-requires-clause-placed : goal.walk_line-requires-clause-placed
walk_line-requires-clause-placed c =
    let script = c.args.script.now in
    let l = c.line_in-line.result in
    subst (IsPlaced script.attributes script.channels script.values)
    (sym (c.line_in-line.ensures l))
    (c.requires.placed c.loop-place.place l c.loop-place-test.true)

pub walk_line-requires-clause-board : goal.walk_line-requires-clause-board
walk_line-requires-clause-board c =
    (c.loop-place.invariant.so_far.0.board, c.loop-place.invariant.so_far.3)

pub walk_line-requires-clause-room : goal.walk_line-requires-clause-room
walk_line-requires-clause-room c =
    let l = c.line_in-line.result in
    room-left c.args.script.now c.loop-place.walk.process.count c.args.walk.now.process.count
    (length c.args.history.now) c.args.lines.now
    c.loop-place.place l c.loop-place-test.true (c.line_in-line.ensures l)
    c.loop-place.invariant.count c.requires.room

pub walk_line-requires-clause-few : goal.walk_line-requires-clause-few
walk_line-requires-clause-few c =
    omega (arith, c.loop-place.invariant.few, c.loop-place-test.true, c.requires.few)

pub walk_line-requires-clause-few_traced : goal.walk_line-requires-clause-few_traced
walk_line-requires-clause-few_traced c =
    omega (arith, c.loop-place.invariant.few_traced, c.loop-place-test.true, c.requires.few_traced)

pub returns-in_err-walk_line-clause-grows : goal.returns-in_err-walk_line-clause-grows
returns-in_err-walk_line-clause-grows c =
    Grows-trans _ _ _ c.loop-place.invariant.grows c.walk_line.ensures.grows

pub loop-place-preserved : goal.loop-place-preserved
loop-place-preserved c =
    let script = c.args.script.now in
    let old = c.loop-place.invariant in
    let so_far = old.so_far in
    let lines = c.args.lines.now in
    let i = c.loop-place.place in
    let l = c.line_in-line.result in
    let at = c.line_in-line.ensures l in
    let below = c.loop-place-test.true in
    let was = c.loop-place.walk in
    let now = c.walk_line.new.walk in
    let before = was.process.count in
    let state = so_far.0 in
    let seen = so_far.1 in
    let step = c.in_ok-walk_line.ensures in
    let walked = step.walked state seen so_far.3 in
    let note = note_of script before seen state l in
    let after = state_after script (plain_history script) l note state in
    let op = own_operation script l in
    let grows = c.walk_line.ensures.grows in
    record {
      numbered = AreNumbered-Grows grows script c.args.numbers.now old.numbered;
      grows = Grows-trans _ _ _ old.grows grows;
      process = step.process;
      held = step.held;
      count = ap (λ n. n + length (process_lines script (drop (i + 1) lines))) step.count
          ∙ count-drop script before lines i l below at
          ∙ old.count;
      few = omega (
        arith,
        old.few,
        walked.in_all,
        takers-few script c.requires.runnable.few_channels every (l, note),
      );
      few_traced = omega (
        arith,
        old.few_traced,
        walked.traced,
        takers-few script c.requires.runnable.few_channels has_trace (l, note),
      );
      so_far = (
        after,
        note.seen,
        so_far.2 ++ held_behind script state.board op,
        walked.kept,
        holds-both c.args.context.now c.loop-place.context c.walk_line.new.context
            c.args.walk.now.own.nodes was.own.nodes now.own.nodes so_far.2
            (held_behind script state.board op) so_far.4 walked.own,
        ap (λ (b : Blackboard Variant). (so_far.2 ++ held_behind script state.board op)
            ++ held_from script b (map (own_operation script) (drop (i + 1) lines)))
            (own-board script (plain_history script) l note state)
            ∙ held_from-drop script (own_operation script) lines i l at below op refl state.board
            so_far.2 _ so_far.5,
        (λ j. now.in_all + sum_by (takers script every) (zip (drop (i + 1) lines)
            (notes_from script (step.count j) note.seen after (drop (i + 1) lines))))
            ∙ taken-drop script every before seen state lines i l was.in_all now.in_all _ below at
            walked.in_all so_far.6,
        (λ j. now.traced + sum_by (takers script has_trace) (zip (drop (i + 1) lines)
            (notes_from script (step.count j) note.seen after (drop (i + 1) lines))))
            ∙ taken-drop script has_trace before seen state lines i l was.traced now.traced _ below
            at walked.traced so_far.7,
      );
    }

pub returns-clause-own : goal.returns-clause-own
returns-clause-own c =
    let script = c.args.script.now in
    let so_far = c.loop-place.invariant.so_far in
    subst (HoldsPaths c.args.context.now c.loop-place.context c.args.walk.now.own.nodes
    c.loop-place.walk.own.nodes)
    (held_from-end script (own_operation script) c.args.lines.now c.loop-place.place so_far.0.board
    so_far.2 _ c.loop-place-test.false so_far.5)
    so_far.4

pub returns-clause-in_all : goal.returns-clause-in_all
returns-clause-in_all c =
    let so_far = c.loop-place.invariant.so_far in
    let was = c.loop-place.walk in
    taken-end c.args.script.now every was.process.count so_far.1 so_far.0 c.args.lines.now
    c.loop-place.place was.in_all _ c.loop-place-test.false so_far.6

pub returns-clause-traced : goal.returns-clause-traced
returns-clause-traced c =
    let so_far = c.loop-place.invariant.so_far in
    let was = c.loop-place.walk in
    taken-end c.args.script.now has_trace was.process.count so_far.1 so_far.0 c.args.lines.now
    c.loop-place.place was.traced _ c.loop-place-test.false so_far.7

pub returns-clause-count : goal.returns-clause-count
returns-clause-count c =
    count-end c.args.script.now c.loop-place.walk.process.count c.args.walk.now.process.count
    c.args.lines.now c.loop-place.place c.loop-place-test.false c.loop-place.invariant.count
