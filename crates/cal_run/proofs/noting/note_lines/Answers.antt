use Rattle.std.proofs.Common.{◌+◌, ◌++◌, drop, length, ap, subst, sym, refl, ◌∙◌}
use Rattle.cal_run.proofs.PlainLemmas.{count-drop, count-end, notes-drop, notes-end, room-left}
use Rattle.cal_run.proofs.PlainLemmas.{start-plain}
use Rattle.cal_run.specs.Lawful.{process_lines}
use Rattle.cal_run.specs.Plain.{notes_from, plain_history}
use Rattle.cal_run.specs.Steps.{at_start, state_after}
use Rattle.cal_script.specs.Valid.{IsPlaced}
use Rattle.cal_run.proofs.noting.note_lines.Goals as goal

pub loop-place-init : goal.loop-place-init
loop-place-init c =
    let script = c.args.script.now in
    let start = c.new-thread.ensures in
    record {
      process = c.requires.process;
      count = refl;
      so_far = (
        at_start,
        start-plain c.new-thread.result start.board start.clock,
        (λ j. c.new-notes.ensures j ++ notes_from script c.args.process.now.count (start.seen j)
            at_start c.args.lines.now),
      );
    }

pub note_line-requires-clause-placed : goal.note_line-requires-clause-placed
note_line-requires-clause-placed c =
    let script = c.args.script.now in
    let l = c.line_in-line.result in
    subst (IsPlaced script.attributes script.channels script.values)
    (sym (c.line_in-line.ensures l))
    (c.requires.placed c.loop-place.place l c.loop-place-test.true)

pub note_line-requires-clause-thread : goal.note_line-requires-clause-thread
note_line-requires-clause-thread c =
    (c.loop-place.invariant.so_far.0, c.loop-place.invariant.so_far.1)

pub note_line-requires-clause-room : goal.note_line-requires-clause-room
note_line-requires-clause-room c =
    let l = c.line_in-line.result in
    room-left c.args.script.now c.loop-place.process.count c.args.process.now.count
    (length c.args.history.now) c.args.lines.now
    c.loop-place.place l c.loop-place-test.true (c.line_in-line.ensures l)
    c.loop-place.invariant.count c.requires.room

pub loop-place-preserved : goal.loop-place-preserved
loop-place-preserved c =
    let old = c.loop-place.invariant in
    let script = c.args.script.now in
    let lines = c.args.lines.now in
    let i = c.loop-place.place in
    let l = c.line_in-line.result in
    let note = c.in_ok-note.note in
    let state = old.so_far.0 in
    let step = c.in_ok-note.ensures in
    let noted = step.noted state old.so_far.1 in
    let after = state_after script (plain_history script) l note state in
    record {
      process = step.process;
      count = ap (λ n. n + length (process_lines script (drop (i + 1) lines))) step.count
          ∙ count-drop script c.loop-place.process.count lines i l c.loop-place-test.true
          (c.line_in-line.ensures l)
          ∙ old.count;
      so_far = (
        after,
        noted.kept,
        (λ j. c.in_ok-push.ensures.ok j ++ notes_from script (step.count j) (noted.seen j) after
            (drop (i + 1) lines))
            ∙ notes-drop script c.loop-place.process.count c.loop-place.thread.seen state lines i l
            note c.loop-place.notes _
            c.loop-place-test.true (c.line_in-line.ensures l) noted.made old.so_far.2,
      );
    }

pub returns-clause-noted : goal.returns-clause-noted
returns-clause-noted c =
    let old = c.loop-place.invariant in
    notes-end c.args.script.now c.loop-place.process.count c.loop-place.thread.seen old.so_far.0
    c.args.lines.now c.loop-place.place
    c.loop-place.notes _ c.loop-place-test.false old.so_far.2

pub returns-clause-count : goal.returns-clause-count
returns-clause-count c =
    count-end c.args.script.now c.loop-place.process.count c.args.process.now.count c.args.lines.now
    c.loop-place.place
    c.loop-place-test.false c.loop-place.invariant.count
