use Rattle.std.proofs.Common.{◌≡◌, pos, rules}
use Rattle.cal_value.specs.declared.variant.Variant.TheVariants as value
use Rattle.cal_write.specs.Nodes.{prop_attribute}
use Rattle.cal_write.proofs.DescribeLemmas.{no-props, some-props}
use Rattle.cal_write.proofs.stream.Stream.describe_props.Goals as goal

pub returns-then-props-eq-NO_PROPS : goal.returns-then-props-eq-NO_PROPS
returns-then-props-eq-NO_PROPS c =
    no-props c.args.self.now c.args.attribute.now c.node-kind.result c.if-props-eq-NO_PROPS.true c.node-kind.ensures

pub returns : goal.returns
returns c =
    let is : c.in_ok-entry.entry ≡ record { attr = prop_attribute; value = value.Int (pos c.args.attribute.now.props.0) } = search rules in
    some-props c.args.self.now c.add_described.new.self c.args.attribute.now c.in_ok-entry.entry c.node-kind.result c.id.result c.in_ok-id.id
    c.if-props-eq-NO_PROPS.false c.id.ensures c.node-kind.ensures is c.in_ok-id.ensures
