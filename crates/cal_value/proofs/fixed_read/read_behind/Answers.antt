use Rattle.std.proofs.Common.{arith, lit≤}
use Rattle.std.proofs.lemmas.Grind.{common_steps}
use Rattle.cal_value.proofs.Numbers.{at_most-short}
use Rattle.cal_value.proofs.fixed_read.read_behind.Goals as goal

pub returns-in_err-number : goal.returns-in_err-number
returns-in_err-number c =
    let fits = at_most-short 10 999999999 9 c.args.digits.now (lit≤ tt) (omega arith) (lit≤ tt) in
    grind (arith, common_steps)
