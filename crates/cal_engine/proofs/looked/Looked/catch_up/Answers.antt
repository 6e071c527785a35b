use Rattle.std.proofs.Common.{ap, refl, ◌∙◌, arith}
use Rattle.std.proofs.lemmas.Grind.{common_steps}
use Rattle.cal_engine.specs.Looked.{looks_at}
use Rattle.cal_engine.proofs.Looking.{looked_more}
use Rattle.cal_engine.proofs.looked.Looked.catch_up.Goals as goal

pub loop-place-init : goal.loop-place-init
loop-place-init c = record { counted = omega arith; is = λ h. h }

pub loop-place-preserved : goal.loop-place-preserved
loop-place-preserved c = record {
  counted = grind (arith, common_steps);
  is = λ h.
      let now = c.loop-place.invariant.is h in
      looked_more c.args.query.now c.args.context.now c.loop-place.self _ (record { 0 = c.in-Ok.number }) c.looks_at-looks.result refl
      c.in_ok-push.ensures (omega arith) (omega arith)
      (c.looks_at-looks.ensures now.names
      ∙ ap (looks_at c.args.query.now) c.attribute_at-attribute.ensures)
      now;
}

pub returns : goal.returns
returns c = λ h. record { is = c.loop-place.invariant.is h; attributes = omega arith }
