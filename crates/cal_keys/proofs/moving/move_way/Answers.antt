use Rattle.std.proofs.Common.{arith}
use Rattle.cal_context.proofs.CallerLemmas.{Grows-refl, Grows-trans}
use Rattle.cal_keys.proofs.moving.move_way.Goals as goal

pub loop-left-init : goal.loop-left-init
loop-left-init c = record { left = omega arith; grows = Grows-refl c.args.to.now; moved = λ are. are }

pub move_node-requires : goal.move_node-requires
move_node-requires c = c.requires _ _ (omega arith)

pub loop-left-preserved : goal.loop-left-preserved
loop-left-preserved c = record {
  left = omega arith;
  grows = Grows-trans c.args.to.now c.loop-left.to c.move_node.new.to c.loop-left.invariant.grows c.in_ok-move_node.ensures.grows;
  moved = λ are. c.in_ok-move_node.ensures.moved (c.loop-left.invariant.moved are);
}
