use Rattle.cal_context.proofs.ListLemmas.{AreApart-from_distinct}
use Rattle.cal_table.proofs.keys.as_slice.Goals as goal

pub returns-clause-apart : goal.returns-clause-apart
returns-clause-apart g c =
    AreApart-from_distinct g.met.K.Eq.laws g.met.K.Exact.tells _ c.as_slice.ensures.unique
