use Rattle.std.proofs.Common.{◌≡◌, ◌≢◌, ◌<◌, ◌+◌, ◌-◌, ◌/◌, ◌^◌, ◌++◌, ◌∷◌, [], sym, ◌∙◌, suc, arith}
use Rattle.std.proofs.lemmas.Grind.{common_steps}
use Rattle.std.proofs.Math.Nat.{pow-suc}
use Rattle.cal_value.specs.Decimals.{digits_behind}
use Rattle.cal_value.proofs.Fixed.{digits_behind-next, take_before}
use Rattle.cal_value.proofs.fixed_text.push_digits.Goals as goal

pub loop-place-preserved : goal.loop-place-preserved
loop-place-preserved c =
    let places = 9 - (c.loop-place._place + 1) in
    let more : 9 - c.loop-place._place ≡ suc places = omega arith in
    let power = pow-suc 10 places in
    let worth : c.loop-place.worth / 10 ≡ 10 ^ places = grind arith in
    let low : 0 < 10 ^ places = grind (arith, common_steps) in
    let digit = (48 + c.loop-place.rest / (c.loop-place.worth / 10)) ∷ [] in
    let pushed : c.push.new.self ≡ c.loop-place.out ++ digit = grind (arith, common_steps) in
    let text =
    (λ i. c.loop-place.out ++ digits_behind (sym more i) c.loop-place.rest)
    ∙ c.loop-place.invariant.text in
    let out = c.loop-place.out in
    let some : c.loop-place.rest ≢ 0 = omega arith in
    record {
      worth = worth;
      below = omega arith;
      text = rw pushed (digits_behind-next out _ places _ c.loop-place.rest worth some text);
      front = rw pushed (take_before c.args.out.now out digit c.loop-place.invariant.front);
    }
