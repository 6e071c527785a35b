use Rattle.std.proofs.Common.{◌<◌, ◌∙◌, length, get_or, arith}
use Rattle.cal_context.proofs.CallerLemmas.{Grows-refl, Grows-trans}
use Rattle.cal_nodes.proofs.Numbering.{adds_ways-more, can_later, can_met, numbered_later}
use Rattle.cal_nodes.proofs.Numbering.{numbered_more}
use Rattle.cal_once.proofs.Learning.{learns_then}
use Rattle.cal_once.specs.Seats.{view}
use Rattle.cal_words.specs.declared.node.NodeId.{NodeId}
use Rattle.cal_nodes.proofs.context_nodes.ContextNodes.number_all.Goals as goal

pub look_from-requires-clause-nodes : goal.look_from-requires-clause-nodes
look_from-requires-clause-nodes c k d less =
    let inv = c.loop-place.invariant in
    let tree = c.args.tree.now in
    let node = get_or c.args.nodes.now k d in
    can_met tree c.loop-place.seat c.loop-place.context c.loop-place.self node
    inv.numbered.long
    (can_later tree c.args.seat.now c.loop-place.seat inv.learns.more c.args.context.now
    c.loop-place.context node inv.grows (c.requires.nodes k d less))

pub number_of-requires-clause-numbered : goal.number_of-requires-clause-numbered
number_of-requires-clause-numbered c =
    let t = c.loop-place.context in
    numbered_later c.args.tree.now c.loop-place.seat c.look_from.new.seat
    c.look_from.ensures.learns.more t t c.loop-place.self (Grows-refl t)
    c.loop-place.invariant.numbered

pub number_of-requires-clause-node : goal.number_of-requires-clause-node
number_of-requires-clause-node c =
    let inv = c.loop-place.invariant in
    let test = c.loop-place-test.true in
    let nodes = c.args.nodes.now in
    let i = c.loop-place.place in
    let none : NodeId = record { 0 = 0 } in
    let less : i < length nodes = omega arith in
    let seen = learns_then (view c.args.seat.now) (view c.loop-place.seat)
    (view c.look_from.new.seat) inv.learns c.look_from.ensures.learns in
    can_later c.args.tree.now c.args.seat.now c.look_from.new.seat seen.more c.args.context.now
    c.loop-place.context (get_or nodes i none) inv.grows (c.requires.nodes i none less)

pub loop-place-preserved : goal.loop-place-preserved
loop-place-preserved c =
    let inv = c.loop-place.invariant in
    let test = c.loop-place-test.true in
    let done = c.number_of.ensures in
    let nodes = c.args.nodes.now in
    let i = c.loop-place.place in
    let none : NodeId = record { 0 = 0 } in
    let less : i < length nodes = omega arith in
    let was = c.loop-place.seat in
    let is = c.number_of.new.seat in
    let learns = learns_then (view was) (view c.look_from.new.seat) (view is)
    c.look_from.ensures.learns done.learns in
    record {
      seat = done.seat;
      learns = learns_then (view c.args.seat.now) (view was) (view is) inv.learns learns;
      grows = Grows-trans c.args.context.now c.loop-place.context c.number_of.new.context inv.grows
          done.grows;
      attributes = done.attributes ∙ inv.attributes;
      numbered = done.numbered;
      keeps = λ node n e. done.keeps node n (inv.keeps node n e);
      only = adds_ways-more c.args.tree.now was is learns.more c.args.context.now
          c.loop-place.context c.number_of.new.context done.grows nodes i less inv.only done.only;
      all = numbered_more c.loop-place.self c.number_of.new.self done.keeps nodes i none less inv.all
          (c.in_ok-number_of.field-0, c.in_ok-number_of.ensures.number);
    }

pub returns-in_err-number_of-clause-learns : goal.returns-in_err-number_of-clause-learns
returns-in_err-number_of-clause-learns c =
    let was = c.loop-place.seat in
    let is = c.number_of.new.seat in
    let learns = learns_then (view was) (view c.look_from.new.seat) (view is)
    c.look_from.ensures.learns c.number_of.ensures.learns in
    learns_then (view c.args.seat.now) (view was) (view is) c.loop-place.invariant.learns learns

pub returns-in_err-number_of-clause-only : goal.returns-in_err-number_of-clause-only
returns-in_err-number_of-clause-only c =
    let inv = c.loop-place.invariant in
    let test = c.loop-place-test.true in
    let done = c.number_of.ensures in
    let nodes = c.args.nodes.now in
    let i = c.loop-place.place in
    let less : i < length nodes = omega arith in
    let was = c.loop-place.seat in
    let is = c.number_of.new.seat in
    let learns = learns_then (view was) (view c.look_from.new.seat) (view is)
    c.look_from.ensures.learns done.learns in
    adds_ways-more c.args.tree.now was is learns.more c.args.context.now c.loop-place.context
    c.number_of.new.context done.grows nodes i less inv.only done.only
