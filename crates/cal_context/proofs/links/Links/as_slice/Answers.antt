use Rattle.std.proofs.Common.{sym, rules}
use Rattle.std.proofs.lemmas.Grind.{common_steps}
use Rattle.cal_context.proofs.ListLemmas.{AreApart-from_distinct}
use Rattle.cal_context.proofs.links.Links.as_slice.Goals as goal

pub returns-clause-apart : goal.returns-clause-apart
returns-clause-apart c = rw (sym c.self.view_is) (AreApart-from_distinct (search rules) (search (rules, common_steps)) _ c.as_slice.ensures.unique)
