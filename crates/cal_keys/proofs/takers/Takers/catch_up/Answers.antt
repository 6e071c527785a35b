use Rattle.std.proofs.Common.{◌≡◌, ◌+◌, ◌<◌, [], ◌∷◌, arith, length, refl, subst, sym, ap, ◌∙◌}
use Rattle.std.proofs.lemmas.List.{length-append}
use Rattle.cal_context.specs.declared.numbers.AttributeNumber.{AttributeNumber}
use Rattle.cal_keys.specs.Takers.{IsTaker}
use Rattle.cal_keys.specs.declared.takers.Takers.{Takers}
use Rattle.cal_keys.proofs.TakerLemmas.{known_next}
use Rattle.cal_keys.proofs.takers.Takers.catch_up.Goals as goal

pub loop-place-preserved : goal.loop-place-preserved
loop-place-preserved c =
    let t = c.args.context.now in
    let old = c.loop-place.self in
    let new : Takers = record { places = old.places; path = old.path; known = c.push.new.self } in
    let a : AttributeNumber = record { 0 = c.in-Ok.number } in
    let next : a.0 ≡ length old.known.items = c.in-Ok.ensures.1 ∙ sym c.loop-place.invariant.counted in
    let within : a.0 < length t.attributes = omega (arith, c.in-Ok.ensures.1, c.attribute_count-place-end.ensures) in
    let counts = length-append old.known.items (c.taker_of-taker.result ∷ []) in
    record {
      counted = ap length c.in_ok-push.ensures.items ∙ counts ∙ ap (λ n. n + 1) c.loop-place.invariant.counted;
      are = λ names h. let before = c.loop-place.invariant.are names h in
          known_next t names old new a c.taker_of-taker.result refl refl c.in_ok-push.ensures.items next within
          (subst (λ b. IsTaker names b c.taker_of-taker.result) c.attribute_at-attribute.ensures (c.taker_of-taker.ensures names before.places)) before;
    }

pub returns : goal.returns
returns c = λ names h. record {
  are = c.loop-place.invariant.are names h;
  all = omega (arith, c.loop-place.invariant.counted, c.attribute_count-place-end.ensures);
}
