use Rattle.std.proofs.Common.{◌≡◌, rules}
use Rattle.cal_value.specs.declared.variant.Variant.TheVariants as value
use Rattle.cal_write.specs.Nodes.{name_attribute}
use Rattle.cal_write.proofs.DescribeLemmas.{names}
use Rattle.cal_write.proofs.stream.Stream.describe.Goals as goal

pub returns : goal.returns
returns c =
    let is : c.in_ok-entry.entry ≡ record { attr = name_attribute; value = value.Text c.args.attribute.now.name } = search rules in
    names c.args.self.now c.describe_props.new.self c.add_described.new.self c.args.attribute.now c.in_ok-entry.entry c.in_ok-parent.parent c.id.result c.in_ok-id.id
    c.id.ensures c.in_ok-parent.ensures is c.in_ok-id.ensures
