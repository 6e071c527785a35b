use Rattle.std.proofs.Common.{sym}
use Rattle.cal_context.proofs.LinkLemmas.{whole-IsContext}
use Rattle.cal_context.proofs.context.Context.has_each_once.Goals as goal

pub returns : goal.returns
returns c = rw (sym c.self.view_is) (whole-IsContext c.self.invariant)
