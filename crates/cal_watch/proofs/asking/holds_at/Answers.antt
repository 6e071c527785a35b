use Rattle.std.proofs.Common.{ap, ◌∙◌}
use Rattle.std.proofs.lemmas.Result.{IfOk-weaker}
use Rattle.cal_context.specs.Tree.{attribute_at}
use Rattle.cal_trigger.specs.Deciding.{speaks_of}
use Rattle.cal_watch.proofs.Entries.{holds_above, holds_here}
use Rattle.cal_watch.proofs.asking.holds_at.Goals as goal

pub returns-then-kept_at : goal.returns-then-kept_at
returns-then-kept_at g c = λ named known.
    holds_above g.D.Decider.condition c.args.context.now c.in-Some.link c.args.node
    c.in-Some.ensures.linked c.args.holding.now c.kept_at.result c.kept_at.ensures known
    c.if-kept_at.true

pub returns : goal.returns
returns g c =
    let condition = g.D.Decider.condition in
    let t = c.args.context.now in
    let link = c.in-Some.link in
    IfOk-weaker c.speaks_of.result _ _
    (λ speaks says named known.
    holds_here condition t link c.args.node c.in-Some.ensures.linked c.args.holding.now
    c.kept_at.result c.kept_at.ensures known c.if-kept_at.false speaks
    (says named
    ∙ ap (λ v. speaks_of condition (record { attr = attribute_at t link.attribute; value = v }))
    c.value_at.ensures))
    c.speaks_of.ensures
