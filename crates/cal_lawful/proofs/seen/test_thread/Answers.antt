use Rattle.std.proofs.Common.{◌+◌, [], ◌∷◌, ◌++◌, subst, sym, refl, append-nil, append_assoc, arith}
use Rattle.cal_lawful.proofs.TellLemmas.{noted-done}
use Rattle.cal_lawful.proofs.WalkLemmas.{noted-next}
use Rattle.cal_lawful.specs.Broken.{Noted}
use Rattle.cal_lawful.specs.Checking.{SeenTell}
use Rattle.cal_run.specs.Steps.{at_start, state_after}
use Rattle.cal_lawful.proofs.seen.test_thread.Goals as goal

pub loop-place-init : goal.loop-place-init
loop-place-init c = record {
  so_far = (
    [],
    at_start,
    refl,
    λ front told. subst (SeenTell c.args.script.now c.args.journal.now c.args.tests.now)
        (sym (append-nil front)) told,
  );
  row = omega arith;
}

pub loop-place-preserved : goal.loop-place-preserved
loop-place-preserved c =
    let old = c.loop-place.invariant in
    let so_far = old.so_far in
    let script = c.args.script.now in
    let journal = c.args.journal.now in
    let i = c.loop-place.place in
    let l = c.noted_at-line.result.0 in
    let n = c.noted_at-line.result.1 in
    let row = old.row in
    let more = c.test_line.ensures.row in
    record {
      so_far = (
        so_far.0 ++ Noted (record {
          thread = c.args.thread;
          number = i + 1;
          line = l;
          note = n;
          before = c.loop-place.before;
          state = so_far.1;
        }) ∷ [],
        state_after script journal.ops l n so_far.1,
        noted-next script journal.ops c.args.thread (i + 1) c.loop-place.before so_far.1
            c.args.lines.now c.args.notes.now i l n so_far.0 _ (c.noted_at-line.ensures.line l)
            (c.noted_at-line.ensures.note n) c.loop-place-test.true c.requires.noted so_far.2,
        (λ front told. subst (SeenTell script journal c.test_line.new.tests)
            (append_assoc front so_far.0 _)
            (c.test_line.ensures.told (front ++ so_far.0) so_far.1 (so_far.3 front told))),
      );
      row = omega (arith, row, more);
    }

pub returns-clause-told : goal.returns-clause-told
returns-clause-told c = λ front told.
    let so_far = c.loop-place.invariant.so_far in
    let script = c.args.script.now in
    let journal = c.args.journal.now in
    subst (λ rows. SeenTell script journal c.loop-place.tests (front ++ rows))
    (noted-done script journal.ops c.args.thread (c.loop-place.place + 1) c.loop-place.before
    so_far.1 c.args.lines.now c.args.notes.now c.loop-place.place so_far.0 _
    c.loop-place-test.false so_far.2) (so_far.3 front told)
