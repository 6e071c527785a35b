use Rattle.std.proofs.Common.{rules, ◌≡◌, ℕ, map, refl, sym, subst}
use Rattle.std.specs.Option.{option_copied}
use Rattle.cal_hand.proofs.HandLemmas.{adds_node, below_root, made_below, parent_path}
use Rattle.cal_hand.specs.Nodes.{node_entry, parent_number}
use Rattle.cal_once.specs.Seats.{view}
use Rattle.cal_tree.specs.Paths.{HasPath, KnowsNode, NodeEntry}
use Rattle.cal_tree.specs.Seats.{plan_of, slots_of}
use Rattle.cal_tree.proofs.Walks.{known_of_path}
use Rattle.cal_tree.proofs.Ways.{leads_later}
use Rattle.cal_hand.proofs.hand.HandNodeMakerUnitNodeId.child.Goals as goal
use Rattle.cal_hand.proofs.hand.HandNodeMakerUnitNodeId.child.Goals.{in-Some, in-None}

pub child-requires-clause-parent : goal.child-requires-clause-parent
child-requires-clause-parent c =
    let v = view c.args.self.now.seat.now in
    let slots = slots_of c.args.self.now.tree.now in
    let p = c.requires.parent in
    let same : parent_number (option_copied c.args.parent) ≡ c.match-parent.parent.0 =
    elim c.match-parent.branch [ in-Some w ↦ search rules | in-None w ↦ search rules ] in
    subst (λ (n : ℕ). KnowsNode slots v n) same
    (known_of_path slots v _ _ (parent_path slots v (option_copied c.args.parent) p.0 p.1))

pub returns-in-Ok-clause-made : goal.returns-in-Ok-clause-made
returns-in-Ok-clause-made c path is =
    let v = view c.args.self.now.seat.now in
    let w = view c.child.new.seat in
    let slots = slots_of c.args.self.now.tree.now in
    let parent = c.match-parent.parent.0 in
    let entry : NodeEntry = record { attr = c.args.attribute; value = c.args.self.now.value.now } in
    let same : parent_number (option_copied c.args.parent) ≡ parent =
    elim c.match-parent.branch [ in-Some w ↦ search rules | in-None w ↦ search rules ] in
    let at : HasPath slots v (map node_entry path) parent =
    subst (λ (n : ℕ). HasPath slots v (map node_entry path) n) same
    (parent_path slots v (option_copied c.args.parent) path is) in
    record {
      below = below_root (plan_of c.args.self.now.tree.now) parent entry v w c.in-Ok.node
          c.in-Ok.ensures.answer;
      has_path = made_below slots w path parent c.in-Ok.node.0 c.args.attribute
          c.args.self.now.value.now c.in-Ok.ensures.path
          (leads_later slots v w 0 0 (map node_entry path) parent c.in-Ok.ensures.later.3 at);
    }

pub returns-in-Ok-clause-added : goal.returns-in-Ok-clause-added
returns-in-Ok-clause-added c =
    adds_node (plan_of c.args.self.now.tree.now) c.match-parent.parent.0
    (record { attr = c.args.attribute; value = c.args.self.now.value.now })
    (view c.args.self.now.seat.now) (view c.child.new.seat) c.in-Ok.node c.in-Ok.ensures.answer

pub returns-in-Ok-clause-onward : goal.returns-in-Ok-clause-onward
returns-in-Ok-clause-onward c =
    let adds = adds_node (plan_of c.args.self.now.tree.now) c.match-parent.parent.0
    (record { attr = c.args.attribute; value = c.args.self.now.value.now })
    (view c.args.self.now.seat.now) (view c.child.new.seat) c.in-Ok.node c.in-Ok.ensures.answer in
    record {
      lent = refl;
      tree = refl;
      value = refl;
      seat = λ _. c.in-Ok.ensures.seat;
      later = c.in-Ok.ensures.later;
      place = adds.0;
      one = adds.2;
    }
