use Rattle.std.proofs.Common.{sym}
use Rattle.cal_context.proofs.ListLemmas.{AreApart-from_distinct}
use Rattle.cal_context.proofs.interner.Interner.as_slice.Goals as goal

pub returns-clause-apart : goal.returns-clause-apart
returns-clause-apart g c = rw (sym c.self.view_is) (AreApart-from_distinct g.met.T.Eq.laws g.met.T.Exact.tells _ c.as_slice.ensures.unique)
