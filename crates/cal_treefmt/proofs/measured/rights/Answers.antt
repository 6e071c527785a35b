use Rattle.std.proofs.Common.{true, false, [], ◌∷◌}
use Rattle.cal_treefmt.proofs.Blanks.{blanks-more}
use Rattle.cal_treefmt.proofs.measured.rights.Goals as goal

pub loop-column-preserved : goal.loop-column-preserved
loop-column-preserved c =
    blanks-more true c.args.columns.now c.loop-column._column-index (false ∷ []) c.loop-column.rights.items _ c.loop-column-test.true c.loop-column.invariant c.in_ok-push-2.ensures.items
