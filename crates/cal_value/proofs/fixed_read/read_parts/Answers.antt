use Rattle.std.proofs.Common.{ℕ, ◌^◌, ◌+◌, ◌*◌, Some, ap, sym, ◌∙◌, arith}
use Rattle.cal_value.specs.Decimals.{rest_nanos}
use Rattle.cal_value.specs.Numerals.{at_most, number_of}
use Rattle.cal_value.proofs.Numbers.{at_most-fits, at_most-none}
use Rattle.cal_value.proofs.Fixed.{without_whole, without_rest, joined-both}
use Rattle.cal_value.proofs.fixed_read.read_parts.Goals as goal

pub returns-in_err-whole-clause-value : goal.returns-in_err-whole-clause-value
returns-in_err-whole-clause-value c =
    let whole = sym c.in_err-whole.ensures.value in
    c.from_residual.ensures ∙ sym (without_whole _ (rest_nanos c.args.rest.now) whole)

pub returns-in_err-rest-clause-value : goal.returns-in_err-rest-clause-value
returns-in_err-rest-clause-value c =
    let rest = sym c.in_err-rest.ensures in
    c.from_residual-in_err-rest.ensures
    ∙ sym (without_rest (number_of 10 c.args.whole.now) _ rest)

pub returns-then-nanos-gt-MOST-clause-value : goal.returns-then-nanos-gt-MOST-clause-value
returns-then-nanos-gt-MOST-clause-value c =
    let both = joined-both _ _ _ _ (sym c.in_ok-whole.ensures.value) (sym c.in_ok-rest.ensures) in
    let nanos = c.in_ok-whole.whole * 1000000000 + c.in_ok-rest.rest in
    sym (ap (at_most (2 ^ 86)) both ∙ at_most-none (2 ^ 86) nanos (omega (arith, c.from.ensures)))

pub returns-else-nanos-gt-MOST-clause-value : goal.returns-else-nanos-gt-MOST-clause-value
returns-else-nanos-gt-MOST-clause-value c =
    let both = joined-both _ _ _ _ (sym c.in_ok-whole.ensures.value) (sym c.in_ok-rest.ensures) in
    let nanos = c.in_ok-whole.whole * 1000000000 + c.in_ok-rest.rest in
    ap (λ (r : ℕ). Some (c.in_ok-whole.whole * 1000000000 + r)) c.from.ensures
    ∙ sym (ap (at_most (2 ^ 86)) both ∙ at_most-fits (2 ^ 86) nanos (omega (arith, c.from.ensures)))
