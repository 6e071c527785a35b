use Rattle.std.proofs.Common.{◌<◌, length, sym, subst, arith}
use Rattle.cal_context.proofs.LinkLemmas.{linked_at}
use Rattle.cal_context.proofs.context.Context.link.Goals as goal

pub returns-clause-linked : goal.returns-clause-linked
returns-clause-linked c =
    let within = subst (λ t. c.args.node.0 < length t.paths) (sym c.self.view_is) c.requires in
    rw (sym c.self.view_is) (rw c.as_slice.ensures.items
    (linked_at c.self.invariant c.args.node c.in_ok-index.index (omega (arith, c.in_ok-index.ensures)) within))
