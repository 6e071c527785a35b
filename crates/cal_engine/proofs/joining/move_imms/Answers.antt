use Rattle.cal_context.proofs.CallerLemmas.{Grows-refl, Grows-trans}
use Rattle.cal_engine.proofs.joining.move_imms.Goals as goal

pub loop-number-init : goal.loop-number-init
loop-number-init c = record { grows = Grows-refl c.args.to.now; moved = λ are. are }

pub loop-number-preserved : goal.loop-number-preserved
loop-number-preserved c = record {
  grows = Grows-trans c.args.to.now c.loop-number.to c.move_way.new.to c.loop-number.invariant.grows c.in_ok-move_way.ensures.grows;
  moved = λ are. c.in_ok-move_way.ensures.moved (c.loop-number.invariant.moved are);
}
