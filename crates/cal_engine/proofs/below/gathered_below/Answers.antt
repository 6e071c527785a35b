use Rattle.std.proofs.Common.{[], map, get_or, ap, ◌∙◌}
use Rattle.cal_engine.proofs.Totalling.{totals_below}
use Rattle.cal_engine.proofs.below.gathered_below.Goals as goal

pub returns : goal.returns
returns c = λ front keys ways.
    totals_below c.args.context.now front keys c.args.nodes.now c.args.parts.now c.args.none.now c.in_ok-totals.totals.items c.in_ok-below.below.items
    ways c.in_ok-totals.ensures
    (c.in_ok-below.ensures ∙ ap (λ ts. map (λ n. get_or ts n.0 []) c.args.nodes.now) c.deref.ensures.value)
