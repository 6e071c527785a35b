use Rattle.std.proofs.Common.{◌<◌, length, subst, arith}
use Rattle.cal_context.specs.Lists.{Interns}
use Rattle.cal_keys.specs.declared.key.GroupKey.{GroupKey}
use Rattle.cal_keys.proofs.ReadSame.{read_same}
use Rattle.cal_keys.proofs.SingleKeys.{single-next}
use Rattle.cal_keys.proofs.key_table.hashed.Goals as goal

pub loop-node-preserved : goal.loop-node-preserved
loop-node-preserved c =
    let nodes = c.args.nodes.now in
    let old = c.loop-node.keys.keys in
    let new = c.intern.new.self.keys in
    let number = c.in_ok-intern.field-0 in
    let within : c.loop-node.node-index < length nodes = omega arith in
    single-next nodes c.loop-node.node-index _ old new number c.requires within (read_same nodes c.loop-node.node-index _ _ within) c.loop-node.invariant
    (subst (λ (key : GroupKey). Interns old key new number) c.in_ok-single.ensures c.in_ok-intern.ensures.interned)
