use Rattle.std.proofs.Common.{◌≡◌, Bool, List, inl, true, false, get_or, sym, subst}
use Rattle.std.proofs.Common.{◌∙◌, slice_set, Contains}
use Rattle.std.proofs.lemmas.List.{get_or_default}
use Rattle.cal_context.specs.declared.numbers.NodeNumber.{NodeNumber}
use Rattle.cal_run.specs.Holding.{AreMarked}
use Rattle.cal_run.proofs.NodeSetLemmas.{marks-more, marks-same}
use Rattle.cal_run.proofs.node_set.NodeSet.add.Goals as goal

pub invariant_of-self-then-not-index : goal.invariant_of-self-then-not-index
invariant_of-self-then-not-index c =
    let there = c.make_room.new.there.items in
    let nodes = c.self.inside.nodes.items in
    let n = c.args.node in
    let are = marks-same c.self.inside.there.items there nodes c.in_ok-make_room.ensures.same
    c.self.invariant in
    let new : get_or there n.0 false ≡ false =
    sym (subst (λ (b : Bool). b ≡ get_or there n.0 b) c.if-not-index.true c.index.ensures) in
    subst (λ (ns : List NodeNumber). AreMarked (slice_set there n.0 true) ns)
    (sym c.in_ok-push.ensures.items)
    (marks-more there nodes n c.in_ok-make_room.ensures.room are new)

pub returns-else-not-index : goal.returns-else-not-index
returns-else-not-index c =
    let there = c.make_room.new.there.items in
    let n = c.args.node in
    let marked : get_or there n.0 false ≡ true =
    get_or_default there n.0 false true c.in_ok-make_room.ensures.room
    ∙ sym (subst (λ (b : Bool). b ≡ get_or there n.0 b) c.if-not-index.false c.index.ensures) in
    inl (
      subst (λ (ns : List NodeNumber). Contains ns n) c.self.view_is
          (c.self.invariant.listed n (sym (c.in_ok-make_room.ensures.same n.0) ∙ marked)),
      c.self.view_is,
    )
