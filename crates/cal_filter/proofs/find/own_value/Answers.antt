use Rattle.std.proofs.Common.{Some, ap, sym, ◌∙◌}
use Rattle.cal_filter.proofs.Finding.{own_value_lem}
use Rattle.cal_filter.proofs.find.own_value.Goals as goal

pub returns : goal.returns
returns c = λ within.
    ap Some c.value_at.ensures
    ∙ sym (own_value_lem c.args.context.now c.in_ok-link.link c.args.node c.in_ok-link.ensures.linked)
