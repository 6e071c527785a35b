use Rattle.std.proofs.Common.{arith, ◌∙◌}
use Rattle.cal_keys.proofs.ReadSame.{read_same}
use Rattle.cal_engine.proofs.Totalling.{totals_more}
use Rattle.cal_engine.proofs.below.totals.Goals as goal

pub loop-number-preserved : goal.loop-number-preserved
loop-number-preserved c =
    let parts = c.args.parts.now in
    let n = c.loop-number.number in
    totals_more c.args.context.now c.args.nodes.now parts c.args.none.now c.loop-number.totals.items c.add_upwards.new.totals.items
    n _ c.deref.result.now
    (omega arith) (omega arith) (read_same c.args.nodes.now n _ _ (omega arith)) (c.deref.ensures.value ∙ c.in_ok-own.ensures ∙ read_same parts n _ _ (omega arith))
    c.loop-number.invariant c.in_ok-add_upwards.ensures.long c.in_ok-add_upwards.ensures.added
