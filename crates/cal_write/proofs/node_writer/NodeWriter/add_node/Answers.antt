use Rattle.std.proofs.Common.{refl, subst}
use Rattle.cal_value.specs.declared.attribute.Attribute.{Attribute}
use Rattle.cal_value.specs.declared.variant.Variant.{Variant}
use Rattle.cal_context.specs.Tree.{attribute_at}
use Rattle.cal_write.specs.Stream.{AddsEntry}
use Rattle.cal_write.proofs.KeptLemmas.{node-added}
use Rattle.cal_write.proofs.node_writer.NodeWriter.add_node.Goals as goal

pub returns-clause-adds : goal.returns-clause-adds
returns-clause-adds c =
    let mid = c.need_attribute.new.self in
    node-added c.args.context.now c.has_each_once.ensures c.args.self.now c.need_attribute.new.self
    (record { alloc = c.need_attribute.new.self.alloc; stream = c.add.new.self; nodes = c.set.new.self; attributes = c.need_attribute.new.self.attributes })
    c.args.link c.args.node c.args.parent c.in_ok-attribute.attribute c.in_ok-id.id c.requires.linked c.requires.unknown
    c.in_ok-attribute.ensures.needs c.in_ok-attribute.ensures.nodes
    (λ s up is parent knows fresh.
    subst (λ (v : Variant). AddsEntry mid.stream c.add.new.self c.args.parent c.in_ok-attribute.attribute (record { attr = attribute_at c.args.context.now c.args.link.attribute; value = v }) c.in_ok-id.id) c.value_at.ensures
    (subst (λ (a : Attribute). AddsEntry mid.stream c.add.new.self c.args.parent c.in_ok-attribute.attribute (record { attr = a; value = c.value_at.result.now }) c.in_ok-id.id) c.attribute_at.ensures c.in_ok-id.ensures)
    s up is parent knows fresh)
    c.in_ok-set.ensures refl
