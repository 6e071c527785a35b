use Rattle.std.proofs.Common.{refl, subst}
use Rattle.cal_value.specs.declared.attribute.Attribute.{Attribute}
use Rattle.cal_write.specs.Nodes.{node_of_attribute, needed_by_attribute}
use Rattle.cal_write.specs.Stream.{Describes}
use Rattle.cal_write.proofs.KeptLemmas.{attribute-described}
use Rattle.cal_write.proofs.node_writer.NodeWriter.describe.Goals as goal

pub returns-clause-needs : goal.returns-clause-needs
returns-clause-needs c =
    attribute-described c.args.context.now c.args.self.now
    (record { alloc = c.args.self.now.alloc; stream = c.describe.new.self; nodes = c.args.self.now.nodes; attributes = c.set.new.self })
    c.args.attribute c.in_ok-id.id c.requires
    (λ s is. subst (λ (a : Attribute). Describes c.args.self.now.stream c.describe.new.self (needed_by_attribute a) (node_of_attribute a) c.in_ok-id.id) c.attribute_at-described.ensures c.in_ok-id.ensures s is)
    refl c.in_ok-set.ensures
