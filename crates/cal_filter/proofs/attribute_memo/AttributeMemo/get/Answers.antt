use Rattle.std.proofs.Common.{◌==◌, false, get_or, subst, sym, ap, ◌∙◌}
use Rattle.std.specs.List.{list_any}
use Rattle.std.specs.List.Sorted.{IsNonDecreasing}
use Rattle.cal_filter.proofs.MemoLemmas.{read-marked}
use Rattle.cal_filter.proofs.attribute_memo.AttributeMemo.get.Goals as goal

pub is_among-requires : goal.is_among-requires
is_among-requires c = subst IsNonDecreasing (sym c.deref.ensures.value) c.self.invariant.rising

pub returns : goal.returns
returns c =
    c.is_among.ensures
    ∙ ap (list_any (λ place. place == c.args.attribute.0)) c.deref.ensures.value
    ∙ sym (read-marked c.self.inside.places.items c.self.inside.count c.args.attribute.0 c.self.invariant)
    ∙ ap (λ xs. get_or xs c.args.attribute.0 false) c.self.view_is
