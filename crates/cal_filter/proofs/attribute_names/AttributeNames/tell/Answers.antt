use Rattle.std.proofs.Common.{◌≡◌, ◌++◌, ap, drop, length, map, subst₂, sym, ◌∙◌}
use Rattle.cal_filter.specs.Memo.{ArePlaces, is_of, marked}
use Rattle.cal_filter.proofs.attribute_names.AttributeNames.tell.Goals as goal

pub add_places-requires : goal.add_places-requires
add_places-requires c =
    subst₂ ArePlaces (sym c.row.ensures) (sym (c.len.ensures ∙ c.self.inside.numbers.ok.0))
    (c.self.invariant c.args.name).places

pub returns : goal.returns
returns c =
    let memo = c.args.memo.now in
    let row = c.self.invariant c.args.name in
    let long : c.len.result ≡ length c.self.inside.numbers.items =
    c.len.ensures ∙ c.self.inside.numbers.ok.0 in
    c.in_ok-add_places.ensures
    ∙ ap (λ xs. memo ++ drop (length memo) xs)
    ((λ i. marked (c.row.ensures i) (long i)) ∙ row.marked
    ∙ ap (map (is_of c.args.name)) c.self.view_is)
