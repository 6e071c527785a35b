use Rattle.std.proofs.Common.{sym, add-one, subst}
use Rattle.cal_context.specs.Children.{CanLink}
use Rattle.cal_context.proofs.LinkLemmas.{adds_linked, grows_by_link, whole_by_link}
use Rattle.cal_context.proofs.context.Context.child_by_number.Goals as goal

pub invariant_of-self-2 : goal.invariant_of-self-2
invariant_of-self-2 c =
    let can = subst (λ t. CanLink t c.args.link) (sym c.self.view_is) c.requires in
    whole_by_link c.self.invariant c.args.link can c.in_ok-index.ensures.interned

pub returns-clause-added : goal.returns-clause-added
returns-clause-added c =
    let can = subst (λ t. CanLink t c.args.link) (sym c.self.view_is) c.requires in
    rw (sym c.self.view_is) (rw (add-one c.in_ok-index.index) (adds_linked c.self.invariant c.args.link can c.in_ok-index.index c.in_ok-index.ensures.interned))

pub returns-clause-grows : goal.returns-clause-grows
returns-clause-grows c =
    let can = subst (λ t. CanLink t c.args.link) (sym c.self.view_is) c.requires in
    rw (sym c.self.view_is) (grows_by_link c.self.invariant c.args.link can c.in_ok-index.ensures.interned)
