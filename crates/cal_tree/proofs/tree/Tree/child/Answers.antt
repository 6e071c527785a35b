use Rattle.std.proofs.Common.{◌≡◌, ◌+◌, ◌<◌, ◌++◌, ℕ, [], ◌∷◌, List, length, inr, refl, subst, arith}
use Rattle.cal_words.specs.Words.{node_words}
use Rattle.cal_once.specs.declared.answer.Put.TheVariants.{Placed, RowsFull, ArenaFull}
use Rattle.cal_once.specs.Seats.{view}
use Rattle.cal_once.proofs.Answering.{answers_then}
use Rattle.cal_once.proofs.Seen.{was_seen_from}
use Rattle.cal_tree.specs.Children.{child_ask}
use Rattle.cal_tree.specs.Paths.{NodeEntry, IsChild, IsDepthOf}
use Rattle.cal_tree.specs.Seats.{plan_of, slots_of}
use Rattle.cal_tree.proofs.Nodes.{depth_later, depth_of_path, placed_of}
use Rattle.cal_tree.proofs.Ways.{leads_more}
use Rattle.cal_tree.proofs.tree.Tree.child.Goals as goal
use Rattle.cal_tree.proofs.tree.Tree.child.Goals.{After-put, In-Placed}

-- the parent's depth, as the seat knows it now
depth_now : (c : After-put) → IsDepthOf (slots_of c.args.self.now) (view c.put.new.seat) c.args.parent.0 c.depth-depth.result
depth_now c =
    let later = c.put.ensures.later in
    depth_later (slots_of c.args.self.now) (view c.depth-depth.new.seat) (view c.put.new.seat) c.args.parent.0 c.depth-depth.result later.3 c.depth-depth.ensures.depth

-- the node that was placed
child_now : (c : In-Placed) → IsChild (slots_of c.args.self.now) (view c.put.new.seat) c.args.parent.0 (c.depth-depth.result + 1) (record { attr = c.args.attr; value = c.args.value.now }) (c.in-Placed.place + 1)
child_now c =
    let entry : NodeEntry = record { attr = c.args.attr; value = c.args.value.now } in
    let ask = child_ask (plan_of c.args.self.now) c.args.parent.0 c.depth-depth.result entry in
    let placed = placed_of ask (view c.depth-depth.new.seat) (view c.put.new.seat) c.in-Placed.place c.in-Placed._fresh (c.in-Placed.ensures.answer) in
    record { place = c.in-Placed.place; node_is = refl; within = placed.reached.is_place; is_value = c.know_node.ensures.value; holds = placed.holds }

pub returns-in-Placed-clause-answer : goal.returns-in-Placed-clause-answer
returns-in-Placed-clause-answer c =
    let entry : NodeEntry = record { attr = c.args.attr; value = c.args.value.now } in
    let ask = child_ask (plan_of c.args.self.now) c.args.parent.0 c.depth-depth.result entry in
    record {
      depth = c.depth-depth.result;
      is_depth = depth_now (goal.at.returns-in-Placed-clause-answer c).After-put;
      gives = (
        c.if-depth-ge-DEEPEST.false,
        child_now c,
        (c.in-Placed.place, c.in-Placed._fresh, refl, answers_then ask (view c.args.seat.now) (view c.depth-depth.new.seat) (view c.put.new.seat) c.depth-depth.ensures.learns (Placed c.in-Placed.place c.in-Placed._fresh) c.in-Placed.ensures.answer),
      );
    }

pub returns-in-RowsFull-clause-answer : goal.returns-in-RowsFull-clause-answer
returns-in-RowsFull-clause-answer c =
    let entry : NodeEntry = record { attr = c.args.attr; value = c.args.value.now } in
    let ask = child_ask (plan_of c.args.self.now) c.args.parent.0 c.depth-depth.result entry in
    record {
      depth = c.depth-depth.result;
      is_depth = depth_now (goal.at.returns-in-RowsFull-clause-answer c).After-put;
      gives = (
        c.if-depth-ge-DEEPEST.false,
        answers_then ask (view c.args.seat.now) (view c.depth-depth.new.seat) (view c.put.new.seat) c.depth-depth.ensures.learns RowsFull c.in-RowsFull.ensures.answer,
      );
    }

pub returns-in-ArenaFull-clause-answer : goal.returns-in-ArenaFull-clause-answer
returns-in-ArenaFull-clause-answer c =
    let entry : NodeEntry = record { attr = c.args.attr; value = c.args.value.now } in
    let ask = child_ask (plan_of c.args.self.now) c.args.parent.0 c.depth-depth.result entry in
    record {
      depth = c.depth-depth.result;
      is_depth = depth_now (goal.at.returns-in-ArenaFull-clause-answer c).After-put;
      gives = (
        c.if-depth-ge-DEEPEST.false,
        answers_then ask (view c.args.seat.now) (view c.depth-depth.new.seat) (view c.put.new.seat) c.depth-depth.ensures.learns (ArenaFull c.in-ArenaFull.used c.in-ArenaFull.need) c.in-ArenaFull.ensures.answer,
      );
    }

pub returns-in-Placed-clause-path : goal.returns-in-Placed-clause-path
returns-in-Placed-clause-path c path l =
    let entry : NodeEntry = record { attr = c.args.attr; value = c.args.value.now } in
    let v = view c.put.new.seat in
    let slots = slots_of c.args.self.now in
    let depth = depth_of_path (plan_of c.args.self.now) v c.put.ensures.sound path c.args.parent.0 c.depth-depth.result (depth_now (goal.at.returns-in-Placed-clause-path c).After-put) l in
    let at : c.depth-depth.result + 1 ≡ 0 + length path + 1 = omega arith in
    leads_more slots v 0 0 path entry c.args.parent.0 (c.in-Placed.place + 1) l (subst (λ (d : ℕ). IsChild slots v c.args.parent.0 d entry (c.in-Placed.place + 1)) at (child_now (goal.at.returns-in-Placed-clause-path c).In-Placed))

pub returns-in-Placed-clause-known : goal.returns-in-Placed-clause-known
returns-in-Placed-clause-known c =
    let child = child_now (goal.at.returns-in-Placed-clause-known c).In-Placed in
    inr (child.place, child.node_is, child.within, was_seen_from (view c.put.new.seat).seen (child.place + 1) child.holds.slot child.holds.known)
