use Rattle.std.proofs.Common.{subst, arith}
use Rattle.std.proofs.lemmas.Grind.{common_steps}
use Rattle.cal_context.proofs.CallerLemmas.{Grows-refl, Grows-trans}
use Rattle.cal_filter.specs.Results.{IsNumbered}
use Rattle.cal_keys.proofs.MovedNumbers.{attributes_more, attributes_none}
use Rattle.cal_keys.proofs.moving.moved_attributes.Goals as goal

pub loop-place-init : goal.loop-place-init
loop-place-init c = record {
  grows = Grows-refl c.args.to.now;
  counted = grind (arith, common_steps);
  moved = attributes_none c.args.from.now c.args.to.now c.new-moved.result.items c.new-moved.ensures.items;
}

pub loop-place-preserved : goal.loop-place-preserved
loop-place-preserved c =
    let v = c.put_attribute.new.to in
    record {
      grows = Grows-trans c.args.to.now c.loop-place.to v c.loop-place.invariant.grows c.in_ok-number.ensures.grows;
      counted = grind (arith, common_steps);
      moved = attributes_more c.args.from.now c.loop-place.to v c.loop-place.moved.items c.push.new.self.items (record { 0 = c.in-Ok.number }) c.in_ok-number.number
          c.in_ok-number.ensures.grows c.loop-place.invariant.moved (omega arith) c.in_ok-push.ensures.items
          (subst (λ a. IsNumbered v a c.in_ok-number.number) c.attribute_at-attribute.ensures c.in_ok-number.ensures.numbered);
    }
