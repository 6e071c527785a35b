use Rattle.std.proofs.Common.{subst, arith}
use Rattle.cal_context.specs.Children.{AddsChild}
use Rattle.cal_context.proofs.CallerLemmas.{within_paths}
use Rattle.cal_filter.specs.Results.{IsNumbered}
use Rattle.cal_keys.proofs.MovedNumbers.{node_put}
use Rattle.cal_keys.proofs.moving.put_node.Goals as goal

pub child-requires-clause-parent : goal.child-requires-clause-parent
child-requires-clause-parent c = within_paths c.in_ok-attribute.ensures.grows c.in-Some-number_in.parent.0 (omega arith)

pub child-requires-clause-attribute : goal.child-requires-clause-attribute
child-requires-clause-attribute c = c.in_ok-attribute.ensures.numbered.within

pub returns-clause-leads : goal.returns-clause-leads
returns-clause-leads c = λ are.
    let link = c.in-Some.link in
    let mid = c.put_attribute.new.to in
    let v = c.child.new.self in
    node_put c.args.from.now c.args.to.now mid v c.args.moved.now link c.args.node c.in-Some-number_in.parent c.in_ok-number.number c.in_ok-attribute.attribute
    c.in-Some.ensures.linked are (c.number_in.ensures c.in-Some-number_in.parent c.in-Some-number_in.is) c.in_ok-attribute.ensures.grows
    (subst (λ a. IsNumbered mid a c.in_ok-attribute.attribute) c.attribute_at.ensures c.in_ok-attribute.ensures.numbered)
    (subst (λ w. AddsChild mid c.in-Some-number_in.parent c.in_ok-attribute.attribute w v c.in_ok-number.number) c.value_at.ensures c.in_ok-number.ensures.added)
    c.in_ok-number.ensures.grows
