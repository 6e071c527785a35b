use Rattle.std.proofs.Common.{rules, arith, lit≤}
use Rattle.std.proofs.lemmas.Grind.{common_steps}
use Rattle.cal_value.proofs.Numbers.{at_most-short}
use Rattle.cal_value.proofs.parse.read_hexadecimal.Goals as goal

pub returns : goal.returns
returns c =
    let ds = c.args.digits.now in
    let fits = at_most-short 16 18446744073709551615 16 ds (lit≤ tt) (omega arith) (lit≤ tt) in
    search (rules, common_steps)
