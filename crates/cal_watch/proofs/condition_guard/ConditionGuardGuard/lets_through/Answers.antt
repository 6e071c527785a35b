use Rattle.std.proofs.Common.{false, get_or, map, ap, ◌∙◌}
use Rattle.std.specs.List.{list_any}
use Rattle.cal_context.specs.Snapshots.{entry_of}
use Rattle.cal_watch.specs.Asking.{holds_on}
use Rattle.cal_watch.proofs.Entries.{asked_beside, asked_on_nodes}
use Rattle.cal_watch.proofs.condition_guard.ConditionGuardGuard.lets_through.Goals as goal

pub returns-then-holds_on_nodes-clause-through : goal.returns-then-holds_on_nodes-clause-through
returns-then-holds_on_nodes-clause-through g c = λ knows.
    let named = c.in_ok-know_attributes.ensures knows.named in
    let known = c.in_ok-know_nodes.ensures (c.as_slice.ensures.value ∙ named) knows.holding in
    let held = c.holds_on_nodes.ensures ∙ (λ i. list_any
    (λ n. get_or (c.as_slice-2.ensures.value i) n.0 false) (c.as_slice-3.ensures.value i)) in
    asked_on_nodes g.D.Decider.condition g.met.D.Decider.plain c.args.context.now
    c.args.snapshot.now c.requires c.know_nodes.new.holding.items c.holds_on_nodes.result known held
    c.if-holds_on_nodes.true

pub returns-clause-through : goal.returns-clause-through
returns-clause-through g c = λ knows.
    let condition = g.D.Decider.condition in
    let t = c.args.context.now in
    let named = c.in_ok-know_attributes.ensures knows.named in
    let known = c.in_ok-know_nodes.ensures (c.as_slice.ensures.value ∙ named) knows.holding in
    let held = c.holds_on_nodes.ensures ∙ (λ i. list_any
    (λ n. get_or (c.as_slice-2.ensures.value i) n.0 false) (c.as_slice-3.ensures.value i)) in
    asked_beside condition g.met.D.Decider.plain t c.args.snapshot.now c.requires
    c.know_nodes.new.holding.items c.holds_on_nodes.result known held c.if-holds_on_nodes.false
    c.in_ok-beside.beside
    (c.in_ok-beside.ensures (c.as_slice-4.ensures.value ∙ named)
    ∙ ap (λ imms. holds_on condition (map (entry_of t) imms)) c.as_slice-5.ensures.value)
