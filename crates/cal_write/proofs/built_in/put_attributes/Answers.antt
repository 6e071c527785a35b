use Rattle.std.proofs.Common.{subst, arith}
use Rattle.cal_context.specs.Lists.{Interns}
use Rattle.cal_write.proofs.BuiltInLemmas.{names-step}
use Rattle.cal_write.proofs.built_in.put_attributes.Goals as goal

pub loop-attribute-preserved : goal.loop-attribute-preserved
loop-attribute-preserved c =
    names-step c.loop-attribute.attribute-index (omega arith) _ c.loop-attribute.nodes c.intern.new.self c.in_ok-intern.field-0 c.loop-attribute.invariant
    (subst (λ key. Interns c.loop-attribute.nodes key c.intern.new.self c.in_ok-intern.field-0) c.in_ok-node.ensures c.in_ok-intern.ensures.interned)
