use Rattle.std.proofs.Common.{◌≡◌, ◌<◌, ◌+◌, ◌*◌, sym, length, get_or, arith}
use Rattle.std.specs.Char.{digit_value}
use Rattle.cal_value.proofs.Numbers.{digits_value-push, all_digits-push, at_most-over}
use Rattle.cal_value.proofs.digits.read_number.Goals as goal

pub loop-byte-preserved : goal.loop-byte-preserved
loop-byte-preserved c =
    let ds = c.args.digits.now in
    let byte = get_or ds c.loop-byte.byte-index 0 in
    let inside : c.loop-byte.byte-index < length ds = omega arith in
    let read = c.in-Some.ensures.value in
    let digit : c.from-in-loop-byte-2.result ≡ digit_value byte = cc (read.1) in
    let fits : digit_value byte < c.args.base = rw (← c.from.ensures) read.0 in
    let so_far = c.loop-byte.invariant in
    let base = c.from-in-loop-byte.ensures in
    record {
      value = digits_value-push _ _ _ _ _ _ inside so_far.value base digit;
      numeral = all_digits-push _ _ _ inside so_far.numeral fits;
      small = omega arith;
    }

pub returns-then-number-most-clause-value : goal.returns-then-number-most-clause-value
returns-then-number-most-clause-value c =
    let ds = c.args.digits.now in
    let place = c.loop-byte.byte-index in
    let inside : place < length ds = omega arith in
    let digit : c.from-in-loop-byte-2.result ≡ digit_value (get_or ds place 0) =
    cc (c.in-Some.ensures.value.1) in
    let base = c.from-in-loop-byte.ensures in
    let value = digits_value-push _ _ _ _ _ _ inside c.loop-byte.invariant.value base digit in
    let number = c.loop-byte.number * c.from-in-loop-byte.result + c.from-in-loop-byte-2.result in
    sym (at_most-over c.args.base _ ds (place + 1) number (omega arith) value (omega arith))
