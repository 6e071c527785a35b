use Rattle.std.proofs.Common.{ap, sym, subst, ◌∙◌, ◌<◌, arith, length}
use Rattle.cal_context.specs.Tree.{attribute_at}
use Rattle.cal_filter.specs.Known.{IsNearest, sought}
use Rattle.cal_filter.specs.Sought.{seeks}
use Rattle.cal_filter.proofs.Seeking.{nearest_own, nearest_above}
use Rattle.cal_filter.proofs.seeker.Seeker.nearest_to.Goals as goal

pub returns-then-seeks : goal.returns-then-seeks
returns-then-seeks c = λ k.
    let answer = c.seeks.ensures k
    ∙ ap (λ v. seeks (sought c.args.self.now)
    (record { attr = attribute_at c.args.context.now c.in-Some.link.attribute; value = v }))
    c.value_at.ensures in
    nearest_own c.args.context.now (sought c.args.self.now) c.in-Some.link c.args.node
    c.in-Some.ensures.linked (sym answer ∙ c.if-seeks.true)

pub returns-else-seeks : goal.returns-else-seeks
returns-else-seeks c = λ k.
    let answer = c.seeks.ensures k
    ∙ ap (λ v. seeks (sought c.args.self.now)
    (record { attr = attribute_at c.args.context.now c.in-Some.link.attribute; value = v }))
    c.value_at.ensures in
    let short : c.in-Some.link.parent.0 < length c.args.self.now.nearest =
    omega (arith, c.in-Some.ensures.linked.child.later) in
    nearest_above c.args.context.now (sought c.args.self.now) c.in-Some.link c.args.node
    c.in-Some.ensures.linked c.nearest.result (sym answer ∙ c.if-seeks.false)
    (subst (IsNearest c.args.context.now (sought c.args.self.now) c.in-Some.link.parent)
    (sym c.nearest.ensures) (k.knows.nodes c.in-Some.link.parent short))
