use Rattle.std.proofs.Common.{sym, subst, arith, get_or}
use Rattle.cal_filter.specs.Known.{IsNearest, sought}
use Rattle.cal_filter.proofs.Finding.{found_nothing, nodes_none, unnamed_none}
use Rattle.cal_filter.proofs.seeker.Seeker.find_among.Goals as goal

pub returns-then-sees_nothing : goal.returns-then-sees_nothing
returns-then-sees_nothing c = λ k.
    let t = c.args.context.now in
    let s = c.args.self.now in
    let nodes = c.args.nodes.now in
    sym (found_nothing t (sought s) nodes c.args.imms.now
    (unnamed_none t s k (c.sees_nothing.ensures.unnamed c.if-sees_nothing.true)
    c.args.imms.now c.requires.imms)
    (nodes_none t (sought s) c.has_each_once.ensures nodes
    (λ i n short.
    subst (IsNearest t (sought s) (get_or nodes i n))
    (c.sees_nothing.ensures.nowhere c.if-sees_nothing.true (get_or nodes i n))
    (k.knows.nodes (get_or nodes i n)
    (omega (arith, (c.requires.nodes i n short).within, k.nodes))))))
