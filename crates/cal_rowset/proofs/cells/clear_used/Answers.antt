use Rattle.std.proofs.Common.{refl, ◌∙◌}
use Rattle.std.proofs.lemmas.List.{take_all, take_more}
use Rattle.cal_rowset.proofs.Filling.{AreCleared-none, AreCleared-append}
use Rattle.cal_rowset.proofs.cells.clear_used.Goals as goal

pub loop-place-init : goal.loop-place-init
loop-place-init c = record { counted = refl; cleared = AreCleared-none c.args.cells.now.items }

pub loop-place-preserved : goal.loop-place-preserved
loop-place-preserved c =
    let before = c.loop-place.invariant in
    let after = c.clear_at.ensures in
    record {
      counted = after.counted ∙ before.counted;
      cleared = rw (take_more c.args.used.now c.loop-place.place-index 0 c.loop-place-test.true)
          (AreCleared-append _ c.loop-place.cells.items _ _ _ before.counted before.cleared after.cleared);
    }

pub returns : goal.returns
returns c =
    let kept = c.loop-place.invariant in
    record {
      counted = kept.counted;
      cleared = λ place l. rw (take_all c.loop-place.place-index c.args.used.now c.loop-place-test.false) at (kept.cleared place l);
    }
