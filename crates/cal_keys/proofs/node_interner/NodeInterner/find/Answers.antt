use Rattle.std.proofs.Common.{◌≡◌, Some, get_or, slice_get, sym, ap, subst, ◌∙◌, arith, ltb-true, Contains}
use Rattle.std.proofs.lemmas.Option.{get_or_from_slice_get, slice_get-get_or, slice_get_within}
use Rattle.cal_context.specs.declared.numbers.NodeNumber.{NodeNumber}
use Rattle.cal_keys.proofs.NodePlaces.{place-found}
use Rattle.cal_keys.proofs.node_interner.NodeInterner.find.Goals as goal

pub returns-in_err-place-clause-absent : goal.returns-in_err-place-clause-absent
returns-in_err-place-clause-absent c = λ none there.
    let nodes = c.self.inside.nodes.items in
    let places = c.self.inside.places.items in
    let found = place-found nodes places c.args.node c.self.invariant (subst (λ ns. Contains ns c.args.node) (sym c.self.view_is) there) in
    absurd (omega (arith, slice_get_within places c.args.node.0 found.0 found.1, rw c.deref.ensures.value at c.in_err-place.ensures.lookup))

pub returns-in_err-there-clause-absent : goal.returns-in_err-there-clause-absent
returns-in_err-there-clause-absent c = λ none there.
    let nodes = c.self.inside.nodes.items in
    let places = c.self.inside.places.items in
    let place = c.in_ok-place.field-0.now in
    let found = place-found nodes places c.args.node c.self.invariant (subst (λ ns. Contains ns c.args.node) (sym c.self.view_is) there) in
    let read = rw c.deref.ensures.value at c.in_ok-place.ensures.lookup in
    let same : place ≡ found.0 = read.1 ∙ get_or_from_slice_get places c.args.node.0 found.0 place found.1 in
    absurd (omega (arith, same, slice_get_within nodes found.0 c.args.node found.2, rw c.deref-2.ensures.value at c.in_err-there.ensures.lookup))

pub returns-then-there-node-clause-absent : goal.returns-then-there-node-clause-absent
returns-then-there-node-clause-absent c = λ none there.
    let nodes = c.self.inside.nodes.items in
    let places = c.self.inside.places.items in
    let place = c.in_ok-place.field-0.now in
    let other = c.in_ok-there.field-0.now in
    let found = place-found nodes places c.args.node c.self.invariant (subst (λ ns. Contains ns c.args.node) (sym c.self.view_is) there) in
    let read = rw c.deref.ensures.value at c.in_ok-place.ensures.lookup in
    let same : place ≡ found.0 = read.1 ∙ get_or_from_slice_get places c.args.node.0 found.0 place found.1 in
    let lies = rw c.deref-2.ensures.value at c.in_ok-there.ensures.lookup in
    let is : other ≡ c.args.node = lies.1 ∙ ap (λ k. get_or nodes k other) same ∙ get_or_from_slice_get nodes found.0 c.args.node other found.2 in
    absurd (c.if-there-node.true (ap (λ (n : NodeNumber). n.0) is))

pub returns-clause-found : goal.returns-clause-found
returns-clause-found c =
    let nodes = c.self.inside.nodes.items in
    let place = c.in_ok-place.field-0.now in
    let other = c.in_ok-there.field-0.now in
    let lies = rw c.deref-2.ensures.value at c.in_ok-there.ensures.lookup in
    let is : other ≡ c.args.node = λ i. record { 0 = c.if-there-node.false i } in
    ap (λ ns. slice_get ns place) (sym c.self.view_is)
    ∙ slice_get-get_or nodes place other (ltb-true _ _ (sym lies.0))
    ∙ ap Some (sym lies.1 ∙ is)
