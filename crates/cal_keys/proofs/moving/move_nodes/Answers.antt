use Rattle.cal_context.proofs.CallerLemmas.{Grows-refl, Grows-trans}
use Rattle.cal_keys.proofs.moving.move_nodes.Goals as goal

pub loop-node-init : goal.loop-node-init
loop-node-init c = record { grows = Grows-refl c.args.to.now; moved = λ are. are }

pub loop-node-preserved : goal.loop-node-preserved
loop-node-preserved c = record {
  grows = Grows-trans c.args.to.now c.loop-node.to c.move_way.new.to c.loop-node.invariant.grows c.in_ok-move_way.ensures.grows;
  moved = λ are. c.in_ok-move_way.ensures.moved (c.loop-node.invariant.moved are);
}
