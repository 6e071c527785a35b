use Rattle.std.proofs.Common.{◌≡◌, ◌+◌, ◌<◌, List, length, take, sym, ap, ◌∙◌, subst, arith}
use Rattle.cal_value.specs.ExactOrder.{exact_equiv, exact_tells}
use Rattle.cal_value.specs.OrderLaws.{attribute_exact}
use Rattle.cal_value.specs.declared.attribute.Attribute.{Attribute}
use Rattle.cal_context.specs.Lists.{Adds, AreApart}
use Rattle.cal_context.proofs.ListLemmas.{Adds-insert_key}
use Rattle.cal_table.proofs.Places.{take-Adds}
use Rattle.cal_table.proofs.numbering.AttributeNumbers.of.Goals as goal

pub loop-attr-preserved : goal.loop-attr-preserved
loop-attr-preserved c =
    let items = c.as_slice-attr-items.result.now in
    let same : items ≡ c.args.attrs.now = c.as_slice-attr-items.ensures in
    let i = c.loop-attr.attr-index in
    let new = c.insert.new.self.keys in
    let within : i < length items = omega arith in
    let inserted = Adds-insert_key (exact_equiv attribute_exact) (exact_tells attribute_exact) c.loop-attr.attributes.keys c.in_ok-copy.field-0 new c.in_ok-insert.ensures.keys in
    let before : c.loop-attr.attributes.keys ≡ take i items = c.loop-attr.invariant ∙ ap (take i) (sym same) in
    let adds = subst (λ (z : List Attribute × Attribute). Adds z.0 z.1 new) (λ j. (before j, c.in_ok-copy.ensures j)) inserted in
    take-Adds items i c.attr-item.result new (subst AreApart (sym same) c.requires.apart) within c.attr-item.is adds ∙ ap (take (i + 1)) same
