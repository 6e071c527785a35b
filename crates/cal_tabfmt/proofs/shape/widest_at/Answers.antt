use Rattle.std.proofs.Common.{max, ap₂, sym, ◌∙◌}
use Rattle.cal_tabfmt.proofs.GridLemmas.{widest-more}
use Rattle.cal_tabfmt.proofs.shape.widest_at.Goals as goal

pub loop-line-preserved : goal.loop-line-preserved
loop-line-preserved c =
    c.wider-most.ensures
    ∙ ap₂ max c.loop-line.invariant c.width_at.ensures
    ∙ sym (widest-more c.args.lines.now c.args.place c.loop-line.line-index c.line-item.result c.loop-line-test.true c.line-item.is)
