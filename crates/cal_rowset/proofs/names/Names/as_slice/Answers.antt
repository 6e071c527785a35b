use Rattle.std.proofs.Common.{sym}
use Rattle.cal_context.proofs.ListLemmas.{AreApart-from_distinct}
use Rattle.cal_value.specs.ExactOrder.{exact_equiv, exact_tells, text_exact}
use Rattle.cal_rowset.proofs.names.Names.as_slice.Goals as goal

pub returns-clause-apart : goal.returns-clause-apart
returns-clause-apart c = rw (sym c.self.view_is) (AreApart-from_distinct (exact_equiv text_exact) (exact_tells text_exact) _ c.as_slice.ensures.unique)
