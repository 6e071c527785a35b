use Rattle.std.proofs.Common.{◌<◌, ◌≤◌, List, [], ◌∷◌, ◌++◌, length, map, get_or}
use Rattle.std.proofs.Common.{subst, arith}
use Rattle.std.specs.Prelude.{zip}
use Rattle.cal_run.proofs.NumberLemmas.{AreNumbered-Grows}
use Rattle.cal_lawful.proofs.TellLemmas.{room-drop, rows-done}
use Rattle.cal_lawful.proofs.WalkLemmas.{no_note, notes-long, order-at, rows-next}
use Rattle.cal_lawful.specs.Broken.{Noted, Start}
use Rattle.cal_lawful.specs.Checking.{FoundTell}
use Rattle.cal_run.specs.Lawful.{noted_from}
use Rattle.cal_run.specs.Steps.{at_start}
use Rattle.cal_script.specs.declared.script.Line.{Line}
use Rattle.cal_lawful.proofs.finding.test_threads.Goals as goal

pub test_thread-requires-clause-order : goal.test_thread-requires-clause-order
test_thread-requires-clause-order c =
    let t = c.loop-thread.thread in
    let below : t < length c.args.script.now.threads =
    subst (λ (ts : List (List Line)). t < length ts) c.as_slice-threads.ensures
    c.loop-thread-test.true in
    order-at c.args.script.now c.args.journal.now t c.noted_lines.result.0.now
    c.noted_lines.result.1.now c.requires.read below c.noted_lines.ensures.lines
    c.noted_lines.ensures.notes

pub test_thread-requires-clause-room : goal.test_thread-requires-clause-room
test_thread-requires-clause-room c =
    let threads = c.args.script.now.threads in
    let t = c.loop-thread.thread in
    let lines = c.noted_lines.result.0.now in
    let below : t < length threads = subst (λ (ts : List (List Line)). t < length ts)
    c.as_slice-threads.ensures c.loop-thread-test.true in
    let room = room-drop threads t lines c.loop-thread.tests.row 2000000 below
    (c.noted_lines.ensures.lines lines) c.loop-thread.invariant.room in
    let row = c.test_start.ensures.row in
    omega (arith, room, row)

pub loop-thread-preserved : goal.loop-thread-preserved
loop-thread-preserved c =
    let script = c.args.script.now in
    let journal = c.args.journal.now in
    let old = c.loop-thread.invariant in
    let so_far = old.so_far in
    let t = c.loop-thread.thread in
    let lines = c.noted_lines.result.0.now in
    let notes = c.noted_lines.result.1.now in
    let lines-is = c.noted_lines.ensures.lines lines in
    let below : t < length script.threads = subst (λ (ts : List (List Line)). t < length ts)
    c.as_slice-threads.ensures c.loop-thread-test.true in
    let room = room-drop script.threads t lines c.loop-thread.tests.row 2000000 below lines-is
    old.room in
    let row = c.test_start.ensures.row in
    let more = c.in_ok-test_thread.ensures.row in
    record {
      numbered = AreNumbered-Grows c.test_thread.ensures.grows script c.args.numbers.now
          old.numbered;
      so_far = (
        (so_far.0 ++ Start (get_or journal.threads t no_note) ∷ [])
            ++ map Noted (noted_from script journal.ops t 1 0 at_start (zip lines notes)),
        rows-next script journal script.threads journal.threads t no_note lines notes so_far.0 _
            below (notes-long script journal c.requires.read.shape) lines-is
            (c.noted_lines.ensures.notes no_note) so_far.1,
        c.in_ok-test_thread.ensures.told
            (so_far.0 ++ Start (get_or journal.threads t no_note) ∷ [])
            (c.test_start.ensures.told so_far.0 no_note so_far.2),
      );
      room = omega (arith, room, row, more);
    }

pub returns : goal.returns
returns c =
    let script = c.args.script.now in
    let journal = c.args.journal.now in
    let so_far = c.loop-thread.invariant.so_far in
    let t = c.loop-thread.thread in
    let past : length script.threads ≤ t = subst (λ (ts : List (List Line)). length ts ≤ t)
    c.as_slice-threads.ensures c.loop-thread-test.false in
    subst (FoundTell script journal c.loop-thread.tests)
    (rows-done script journal script.threads journal.threads t so_far.0 _ past so_far.1) so_far.2
