use Rattle.std.proofs.Common.{arith}
use Rattle.cal_treefmt.proofs.Ordering.{parent-is}
use Rattle.cal_treefmt.proofs.order.parent.Goals as goal

pub returns-in-Some : goal.returns-in-Some
returns-in-Some c = parent-is c.args.context.now c.in-Some.link c.args.number (record { 0 = c.in-Ok.number }) (omega (arith, c.in-Ok.ensures)) c.in-Some.ensures.linked
