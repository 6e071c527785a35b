use Rattle.std.proofs.Common.{ap, arith}
use Rattle.std.specs.Fmt.{signed_decimal}
use Rattle.std.proofs.lemmas.Int.{ints}
use Rattle.cal_jsonfmt.proofs.NumberLemmas.{negative-fits, positive-digits, positive-fits}
use Rattle.cal_jsonfmt.proofs.WritingLemmas.{WritesValue-fits}
use Rattle.cal_jsonfmt.proofs.value.write_number.Goals as goal

pub returns-then-number-le18446744073709551615 : goal.returns-then-number-le18446744073709551615
returns-then-number-le18446744073709551615 c = λ is.
    WritesValue-fits c.args.writer.now c.u64.new.self _ c.args.text.now c.args.number (c.in_ok-u64.ensures.room.0, c.in_ok-u64.ensures.ok)
    (positive-digits _ c.args.number (omega (arith, ints))) (positive-fits c.args.number (omega (arith, ints)) (omega (arith, ints))) is

pub returns-then-number-lt0 : goal.returns-then-number-lt0
returns-then-number-lt0 c = λ is.
    WritesValue-fits c.args.writer.now c.i64.new.self _ c.args.text.now c.args.number (c.in_ok-i64.ensures.room.0, c.in_ok-i64.ensures.ok)
    (ap signed_decimal (omega (arith, ints))) (negative-fits c.args.number (omega (arith, ints)) (omega (arith, ints))) is
