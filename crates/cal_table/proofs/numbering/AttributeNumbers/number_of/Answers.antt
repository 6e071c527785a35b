use Rattle.std.proofs.Common.{◌≡◌, List, Some, slice_get, true≢false, sym, ◌∙◌, subst}
use Rattle.std.specs.List.{Contains}
use Rattle.std.proofs.lemmas.Map.Views.{list_any-from_Contains}
use Rattle.cal_context.proofs.ListLemmas.{number_of_position}
use Rattle.cal_value.specs.ExactOrder.{exact_equiv, exact_tells}
use Rattle.cal_value.specs.OrderLaws.{attribute_exact}
use Rattle.cal_value.specs.declared.attribute.Attribute.{Attribute}
use Rattle.cal_table.proofs.numbering.AttributeNumbers.number_of.Goals as goal

pub unreachable-requires : goal.unreachable-requires
unreachable-requires c =
    let there = subst (λ (attrs : List Attribute). Contains attrs c.args.attr.now) (sym c.self.view_is) c.requires in
    true≢false (sym (list_any-from_Contains (exact_equiv attribute_exact) c.args.attr.now c.self.inside.attributes.keys there) ∙ sym c.in_default.ensures.found)

pub returns : goal.returns
returns c =
    subst (λ (attrs : List Attribute). slice_get attrs c.in-Some.number ≡ Some c.args.attr.now) c.self.view_is
    (number_of_position (exact_equiv attribute_exact) (exact_tells attribute_exact) c.self.inside.attributes.keys c.in-Some.number c.args.attr.now c.in-Some.ensures.index)
