use Rattle.std.proofs.Common.{◌≡◌, ◌+◌, [], ◌∷◌, ◌++◌, subst, sym, refl, arith}
use Rattle.std.proofs.Common.{append-nil, append_assoc}
use Rattle.cal_context.proofs.CallerLemmas.{Grows-refl, Grows-trans}
use Rattle.cal_run.proofs.NumberLemmas.{AreNumbered-Grows}
use Rattle.cal_run.proofs.RunLemmas.{order-drop}
use Rattle.cal_lawful.proofs.TellLemmas.{noted-done}
use Rattle.cal_lawful.proofs.WalkLemmas.{may-sooner, noted-next}
use Rattle.cal_lawful.proofs.WatchLemmas.{start-watch}
use Rattle.cal_lawful.specs.Broken.{Noted}
use Rattle.cal_lawful.specs.Checking.{FoundTell, IsWatched, found_of}
use Rattle.cal_run.specs.Seeing.{MaySee}
use Rattle.cal_run.specs.Steps.{at_start, state_after}
use Rattle.cal_script.specs.Valid.{IsPlaced}
use Rattle.cal_lawful.proofs.finding.test_thread.Goals as goal

pub loop-place-init : goal.loop-place-init
loop-place-init c =
    let start = c.new-watch.ensures in
    record {
      numbered = c.requires.numbered;
      grows = Grows-refl _;
      so_far = (
        [],
        at_start,
        refl,
        (λ front told. subst (FoundTell c.args.script.now c.args.journal.now c.args.tests.now)
            (sym (append-nil front)) told),
        start-watch c.args.context.now c.args.script.now c.args.journal.now.ops
            c.new-watch.result start.board start.process start.count start.clock,
      );
      count = (let count = start.count in omega (arith, count));
      order = c.requires.order;
      row = omega arith;
    }

pub run_line-requires-clause-may : goal.run_line-requires-clause-may
run_line-requires-clause-may c =
    let script = c.args.script.now in
    let old = c.loop-place.invariant in
    let l = c.noted_at-line.result.0 in
    let n = c.noted_at-line.result.1 in
    let order = order-drop script c.args.journal.now.ops c.args.lines.now c.args.notes.now
    c.loop-place.place l n (c.noted_at-line.ensures.line l) (c.noted_at-line.ensures.note n)
    c.loop-place-test.true c.requires.noted c.loop-place.before old.order in
    subst (λ history. MaySee script history c.loop-place.watch.process.count l n)
    (sym c.as_slice-ops.ensures)
    (may-sooner script c.args.journal.now.ops c.loop-place.watch.process.count
    c.loop-place.before l n old.count order.0)

pub run_line-requires-clause-placed : goal.run_line-requires-clause-placed
run_line-requires-clause-placed c =
    let script = c.args.script.now in
    let l = c.noted_at-line.result.0 in
    subst (IsPlaced script.attributes script.channels script.values)
    (sym (c.noted_at-line.ensures.line l))
    (c.requires.placed c.loop-place.place l c.loop-place-test.true)

pub loop-place-preserved : goal.loop-place-preserved
loop-place-preserved c =
    let old = c.loop-place.invariant in
    let so_far = old.so_far in
    let script = c.args.script.now in
    let journal = c.args.journal.now in
    let state = so_far.1 in
    let i = c.loop-place.place in
    let l = c.noted_at-line.result.0 in
    let n = c.noted_at-line.result.1 in
    let l-is = c.noted_at-line.ensures.line l in
    let n-is = c.noted_at-line.ensures.note n in
    let order = order-drop script journal.ops c.args.lines.now c.args.notes.now i l n l-is n-is
    c.loop-place-test.true c.requires.noted c.loop-place.before old.order in
    let history = c.as_slice-ops.ensures in
    let watched = subst (λ ops. IsWatched c.loop-place.context script ops c.loop-place.watch state)
    (sym history) so_far.4 in
    let found = subst (λ ops. c.in_ok-found.found ≡ found_of script ops l n state) history
    (c.in_ok-found.ensures.found state watched) in
    let kept = subst (λ ops. IsWatched c.run_line.new.context script ops c.run_line.new.self
    (state_after script ops l n state)) history (c.in_ok-found.ensures.kept state watched) in
    let grows = c.run_line.ensures.grows in
    let row = old.row in
    let more = c.test_line.ensures.row in
    record {
      numbered = AreNumbered-Grows grows script c.args.numbers.now old.numbered;
      grows = Grows-trans _ _ _ old.grows grows;
      so_far = (
        so_far.0 ++ Noted (record {
          thread = c.args.thread;
          number = i + 1;
          line = l;
          note = n;
          before = c.loop-place.before;
          state = state;
        }) ∷ [],
        state_after script journal.ops l n state,
        noted-next script journal.ops c.args.thread (i + 1) c.loop-place.before state
            c.args.lines.now c.args.notes.now i l n so_far.0 _ l-is n-is c.loop-place-test.true
            c.requires.noted so_far.2,
        (λ front told. subst (FoundTell script journal c.test_line.new.tests)
            (append_assoc front so_far.0 _)
            (c.test_line.ensures.told (front ++ so_far.0) state found (so_far.3 front told))),
        kept,
      );
      count = c.in_ok-found.ensures.seen;
      order = order.1;
      row = omega (arith, row, more);
    }

pub returns-clause-told : goal.returns-clause-told
returns-clause-told c = λ front told.
    let so_far = c.loop-place.invariant.so_far in
    let script = c.args.script.now in
    let journal = c.args.journal.now in
    subst (λ rows. FoundTell script journal c.loop-place.tests (front ++ rows))
    (noted-done script journal.ops c.args.thread (c.loop-place.place + 1) c.loop-place.before
    so_far.1 c.args.lines.now c.args.notes.now c.loop-place.place so_far.0 _
    c.loop-place-test.false so_far.2) (so_far.3 front told)
