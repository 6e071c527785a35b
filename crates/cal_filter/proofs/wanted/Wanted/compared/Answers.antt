use Rattle.std.proofs.Common.{◌∙◌, ap, map}
use Rattle.cal_value.specs.Kinds.{every_kind}
use Rattle.cal_value.specs.Reading.{value_of}
use Rattle.cal_filter.specs.Sought.{passes}
use Rattle.cal_filter.proofs.KindLemmas.{compared_holds}
use Rattle.cal_filter.proofs.wanted.Wanted.compared.Goals as goal

pub returns : goal.returns
returns c = λ e.
    ap (λ w. passes w e.attr.kind e.value) c.kept.ensures
    ∙ compared_holds (record { relation = c.args.relation; values = c.in_ok-values.values })
    c.args.text.now e
    (c.in_ok-values.ensures ∙ ap (λ t. map (λ k. value_of k t) every_kind) c.as_str.ensures)
