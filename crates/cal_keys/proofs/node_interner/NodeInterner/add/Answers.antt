use Rattle.std.proofs.Common.{◌≡◌, List, [], ◌∷◌, ◌++◌, ℕ, length, sym, subst, arith, Contains}
use Rattle.std.specs.Prelude.{slice_set}
use Rattle.cal_context.specs.declared.numbers.NodeNumber.{NodeNumber}
use Rattle.cal_keys.specs.NodePlaces.{ArePlaces}
use Rattle.cal_keys.proofs.NodePlaces.{places-front, places-push}
use Rattle.cal_keys.proofs.node_interner.NodeInterner.add.Goals as goal

pub invariant_of-self : goal.invariant_of-self
invariant_of-self c =
    places-front c.self.inside.nodes.items c.self.inside.places.items c.make_room.new.places.items c.self.invariant c.make_room.ensures.front

pub invariant_of-self-in_err-push : goal.invariant_of-self-in_err-push
invariant_of-self-in_err-push c =
    let more = c.make_room.new.places.items in
    subst (λ (ns : List NodeNumber). ArePlaces ns more) (sym c.in_err-push.ensures.items)
    (places-front c.self.inside.nodes.items c.self.inside.places.items more c.self.invariant c.make_room.ensures.front)

pub invariant_of-self-2 : goal.invariant_of-self-2
invariant_of-self-2 c =
    let nodes = c.self.inside.nodes.items in
    let more = c.make_room.new.places.items in
    let n = c.args.node in
    let before = places-front nodes c.self.inside.places.items more c.self.invariant c.make_room.ensures.front in
    let new = subst (λ (ns : List NodeNumber). ¬ Contains ns n) (sym c.self.view_is) c.requires in
    let now = places-push nodes more n before new c.in_ok-make_room.ensures.long in
    let last : c.in-Ok.place ≡ length nodes = omega (arith, c.in-Ok.ensures, c.len-number.ensures) in
    subst (λ (ns : List NodeNumber). ArePlaces ns (slice_set more n.0 c.in-Ok.place)) (sym c.in_ok-push.ensures.items)
    (subst (λ (k : ℕ). ArePlaces (nodes ++ n ∷ []) (slice_set more n.0 k)) (sym last) now)
