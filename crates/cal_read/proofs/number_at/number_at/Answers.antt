use Rattle.std.proofs.Common.{◌≡◌, ◌<◌, ◌≤◌, ◌+◌, length, get_or, ap, arith}
use Rattle.std.proofs.lemmas.Str.{IsCharBoundary-after_ascii}
use Rattle.cal_read.proofs.NumberLemmas.{digit_plain, digits_more, value_more}
use Rattle.cal_read.proofs.UsualLemmas.{plain_more}
use Rattle.cal_read.proofs.number_at.number_at.Goals as goal

pub loop-place-preserved : goal.loop-place-preserved
loop-place-preserved c =
    let line = c.args.line.now in
    let place = c.loop-place.place in
    let so_far = c.loop-place.invariant in
    let within : place < length line = omega (arith, ap length c.as_bytes-bytes.ensures.value) in
    let class = rw c.as_bytes-bytes.ensures.value at c.if-is_ascii_digit.ensures.cases in
    let low : 48 ≤ get_or line place 0 = class.0 in
    let high : get_or line place 0 ≤ 57 = class.1 in
    let read = rw c.as_bytes-bytes.ensures.value at c.from.ensures in
    let digit : c.from.result + 48 ≡ get_or line place 0 = omega (arith, read) in
    record {
      order = omega arith;
      within = omega arith;
      boundary = λ _. IsCharBoundary-after_ascii line place c.utf8.line within (omega arith);
      written = plain_more line c.args.start place so_far.order within (digit_plain (get_or line place 0) low high) so_far.written;
      value = value_more line c.args.start place c.loop-place.number c.from.result so_far.order within low high digit so_far.value;
      digits = digits_more line c.args.start place so_far.order within low high so_far.digits;
      small = omega arith;
    }
