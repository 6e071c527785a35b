use Rattle.std.proofs.Common.{◌≡◌, ◌+◌, suc, ◌++◌, arith, ap, subst, ◌∙◌}
use Rattle.std.specs.Prelude.{option_to_list}
use Rattle.cal_context.proofs.CallerLemmas.{root_within}
use Rattle.cal_treefmt.specs.Chains.{IsNext}
use Rattle.cal_treefmt.proofs.Ordering.{counted_in, long, ordering-place, ordering-smaller, ordering-start, ordering-turn}
use Rattle.cal_treefmt.proofs.order.places.Goals as goal

pub loop-place-init : goal.loop-place-init
loop-place-init c =
    ordering-start c.args.context.now c.has_each_once.ensures c.requires.0 c.requires.1 _ _ c.first-first.result c.in_ok-order.ensures.items
    (c.in_ok-push_some.ensures ∙ ap (λ l. l ++ option_to_list c.first-first.result) c.new-left.ensures)
    (c.first-first.ensures c.requires.0 _ c.requires.2 (root_within c.has_each_once.ensures))

pub overflow_add-place : goal.overflow_add-place
overflow_add-place c =
    let within = ordering-place c.args.context.now c.has_each_once.ensures c.requires.0 c.requires.1 _ _ _ c.in-Some.place c.loop-place.invariant c.in-Some.ensures.last in
    omega (arith, within, counted_in c.args.context.now c.has_each_once.ensures, c.node_count.ensures)

pub loop-place-smaller : goal.loop-place-smaller
loop-place-smaller c =
    let within = ordering-place c.args.context.now c.has_each_once.ensures c.requires.0 c.requires.1 _ _ _ c.in-Some.place c.loop-place.invariant c.in-Some.ensures.last in
    let next : c.in-Some.place + 1 ≡ suc c.in-Some.place = omega arith in
    ordering-smaller c.args.context.now c.has_each_once.ensures c.requires.0 c.requires.1 _ _ _ _ _ _ c.in-Some.place c.next-beside.result c.first-below.result c.loop-place.invariant
    c.in-Some.ensures.last c.in_ok-push.ensures.items c.in_ok-push_some-2.ensures c.in_ok-push_some-3.ensures
    (c.next-beside.ensures c.requires.0 _ c.requires.2 (omega (arith, within, long c.args.context.now c.has_each_once.ensures c.requires.0 c.requires.1)))
    (subst (λ key. IsNext c.requires.0 0 key c.first-below.result) next
    (c.first-below.ensures c.requires.0 _ c.requires.2 (omega (arith, within, counted_in c.args.context.now c.has_each_once.ensures))))

pub loop-place-preserved : goal.loop-place-preserved
loop-place-preserved c =
    let within = ordering-place c.args.context.now c.has_each_once.ensures c.requires.0 c.requires.1 _ _ _ c.in-Some.place c.loop-place.invariant c.in-Some.ensures.last in
    let next : c.in-Some.place + 1 ≡ suc c.in-Some.place = omega arith in
    ordering-turn c.args.context.now c.has_each_once.ensures c.requires.0 c.requires.1 _ _ _ _ _ _ c.in-Some.place c.next-beside.result c.first-below.result c.loop-place.invariant
    c.in-Some.ensures.last c.in_ok-push.ensures.items c.in_ok-push_some-2.ensures c.in_ok-push_some-3.ensures
    (c.next-beside.ensures c.requires.0 _ c.requires.2 (omega (arith, within, long c.args.context.now c.has_each_once.ensures c.requires.0 c.requires.1)))
    (subst (λ key. IsNext c.requires.0 0 key c.first-below.result) next
    (c.first-below.ensures c.requires.0 _ c.requires.2 (omega (arith, within, counted_in c.args.context.now c.has_each_once.ensures))))
