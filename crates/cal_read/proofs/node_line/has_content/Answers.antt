use Rattle.std.proofs.Common.{sym, ◌∙◌, ◌&&◌, ap}
use Rattle.std.specs.Ordering.{eq_by_cmp}
use Rattle.cal_value.specs.Order.{value_cmp}
use Rattle.cal_read.proofs.SiteLemmas.{content}
use Rattle.cal_read.proofs.node_line.has_content.Goals as goal

pub returns : goal.returns
returns c = λ n m is id value parent.
    sym (content c.args.context.now c.args.old.now c.args.ids.now c.args.value.now n m is id value parent
    ∙ ap (λ b. b && eq_by_cmp value_cmp c.args.value.now n.own.entry.value) (sym c.has_ids.ensures ∙ c.if-has_ids.false))

pub returns-then-has_ids : goal.returns-then-has_ids
returns-then-has_ids c = λ n m is id value parent.
    c.has_value.ensures n is
    ∙ sym (content c.args.context.now c.args.old.now c.args.ids.now c.args.value.now n m is id value parent
    ∙ ap (λ b. b && eq_by_cmp value_cmp c.args.value.now n.own.entry.value) (sym c.has_ids.ensures ∙ c.if-has_ids.true))
