use Rattle.std.proofs.Common.{sym}
use Rattle.cal_context.proofs.LinkLemmas.{adds_attribute, grows_by_attribute, whole_by_attribute}
use Rattle.cal_context.proofs.context.Context.attribute.Goals as goal

pub invariant_of-self-2 : goal.invariant_of-self-2
invariant_of-self-2 c = whole_by_attribute c.self.invariant c.in_ok-intern_copy.ensures.interned

pub returns-clause-added : goal.returns-clause-added
returns-clause-added c = rw (sym c.self.view_is) (adds_attribute c.self.invariant c.in_ok-intern_copy.ensures.interned)

pub returns-clause-grows : goal.returns-clause-grows
returns-clause-grows c = rw (sym c.self.view_is) (grows_by_attribute c.self.invariant c.in_ok-intern_copy.ensures.interned)
