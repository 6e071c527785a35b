use Rattle.std.proofs.Common.{◌≡◌, ◌<◌, List, Some, refl, sym, ◌∙◌, subst, inl, inr, arith}
use Rattle.cal_context.proofs.CallerLemmas.{Grows-refl}
use Rattle.cal_hand.specs.Nodes.{NodeAt}
use Rattle.cal_nodes.proofs.Climbing.{above_root, climb_ends, climb_on, climb_step}
use Rattle.cal_nodes.proofs.Numbering.{known_node, node_later, numbered_later}
use Rattle.cal_nodes.specs.Numbers.{number_in}
use Rattle.cal_nodes.specs.Ways.{Climbs}
use Rattle.cal_nodes.specs.declared.way.Step.{Step}
use Rattle.cal_once.specs.Seats.{view}
use Rattle.cal_once.proofs.Learning.{learns_then}
use Rattle.cal_nodes.proofs.way.Way.climb.Goals as goal

pub read-requires-clause-known : goal.read-requires-clause-known
read-requires-clause-known c = known_node c.args.tree.now c.args.seat.now c.args.node
    c.requires.known.0 c.requires.known.1

pub loop-up-init : goal.loop-up-init
loop-up-init c =
    let tree = c.args.tree.now in
    let is = c.read.new.seat in
    let path = c.requires.known.0 in
    let at = node_later tree c.args.seat.now is c.read.ensures.learns.more c.args.node path
    c.requires.known.1 in
    let steps = c.clear.new.self.items in
    let start : Climbs tree is path steps path =
    subst (λ (st : List Step). Climbs tree is path st path) (sym c.clear.ensures.items) refl in
    record {
      seat = c.read.ensures.seat;
      learns = c.read.ensures.learns;
      known = c.in_ok-up.ensures.parent;
      climbed = (climb_step tree is c.args.node c.args.node path steps c.read.new.self.steps.items
          path c.in_ok-up.up at start at c.in_ok-up.ensures.step).0;
    }

pub returns-in-Some-clause-way : goal.returns-in-Some-clause-way
returns-in-Some-clause-way c t path a at =
    let tree = c.args.tree.now in
    let is = c.loop-up.seat in
    let inv = c.loop-up.invariant in
    let more = c.loop-up-test.true in
    let parent = c.loop-up.up.parent in
    let here : NodeAt tree is parent inv.climbed.above = record {
      below = omega arith;
      has_path =
          inv.climbed.here;
    } in
    let number : number_in c.args.numbers.now parent ≡ Some c.in-Some.number =
    sym c.number_at.ensures ∙ c.in-Some.is in
    climb_ends tree is inv.seat t c.args.numbers.now c.args.node path c.loop-up.self.steps.items
    c.loop-up.up c.in-Some.number
    (numbered_later tree c.args.seat.now is inv.learns.more t t c.args.numbers.now (Grows-refl t) a)
    at inv.climbed (inr (parent, here, number))

pub loop-up-smaller : goal.loop-up-smaller
loop-up-smaller c =
    let inv = c.loop-up.invariant in
    let more = c.loop-up-test.true in
    let below : 0 < c.loop-up.up.parent.0 = omega arith in
    (climb_on c.args.tree.now c.loop-up.seat c.read-in-loop-up.new.seat
    c.read-in-loop-up.ensures.learns.more c.args.node c.loop-up.self.steps.items
    c.read-in-loop-up.new.self.steps.items c.loop-up.up c.in_ok-up-2.up below inv.climbed
    c.in_ok-up-2.ensures.step).1

pub loop-up-preserved : goal.loop-up-preserved
loop-up-preserved c =
    let inv = c.loop-up.invariant in
    let more = c.loop-up-test.true in
    let below : 0 < c.loop-up.up.parent.0 = omega arith in
    record {
      seat = c.read-in-loop-up.ensures.seat;
      learns = learns_then (view c.args.seat.now) (view c.loop-up.seat)
          (view c.read-in-loop-up.new.seat) inv.learns c.read-in-loop-up.ensures.learns;
      known = c.in_ok-up-2.ensures.parent;
      climbed = (climb_on c.args.tree.now c.loop-up.seat c.read-in-loop-up.new.seat
          c.read-in-loop-up.ensures.learns.more c.args.node c.loop-up.self.steps.items
          c.read-in-loop-up.new.self.steps.items c.loop-up.up c.in_ok-up-2.up below inv.climbed
          c.in_ok-up-2.ensures.step).0;
    }

pub returns-clause-way : goal.returns-clause-way
returns-clause-way c t path a at =
    let tree = c.args.tree.now in
    let is = c.loop-up.seat in
    let inv = c.loop-up.invariant in
    let end = c.loop-up-test.false in
    let root : c.loop-up.up.parent.0 ≡ 0 = omega arith in
    climb_ends tree is inv.seat t c.args.numbers.now c.args.node path c.loop-up.self.steps.items
    c.loop-up.up (record { 0 = 0 })
    (numbered_later tree c.args.seat.now is inv.learns.more t t c.args.numbers.now (Grows-refl t) a)
    at inv.climbed (inl (
      above_root tree is inv.climbed.above c.loop-up.up.parent.0
          inv.climbed.here root,
      refl,
    ))
