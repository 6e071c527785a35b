use Rattle.std.proofs.Common.{refl, ◌∙◌}
use Rattle.cal_tabfmt.proofs.GridLemmas.{shapes-next}
use Rattle.cal_tabfmt.proofs.shape.shapes.Goals as goal

pub loop-place-preserved : goal.loop-place-preserved
loop-place-preserved c =
    c.in_ok-push.ensures.items
    ∙ shapes-next c.args.lines.now c.args.rights.now c.loop-place.place c.loop-place.made.items c.widest_at.result _ _ c.loop-place-test.true c.loop-place.invariant c.widest_at.ensures refl
