use Rattle.std.proofs.Common.{◌≡◌, ◌+◌, ◌-◌, ◌<◌, ◌++◌, [], ◌∷◌, ℕ, List, length, slice_index_or, ap, sym, ◌∙◌, subst, arith, rules}
use Rattle.std.proofs.lemmas.List.{get_or_default}
use Rattle.cal_value.specs.WellFormed.{IsPath}
use Rattle.cal_value.specs.declared.attribute.Entry.{Entry}
use Rattle.cal_once.specs.Seats.{view}
use Rattle.cal_once.proofs.Learning.{learns_then}
use Rattle.cal_tree.specs.Paths.{NodeEntry, HasPath, no_attribute, entry_of, entries_of, Fits}
use Rattle.cal_tree.specs.Seats.{plan_of, slots_of}
use Rattle.cal_tree.proofs.Ways.{leads_later, one_path}
use Rattle.cal_tree.proofs.Nodes.{depth_of_path}
use Rattle.cal_tree.proofs.Walks.{IsWalked, known_of_path, below_root, walk_begins, walk_later, walk_goes, walk_ends, path_of_fits, some_path}
use Rattle.cal_tree.proofs.tree.Tree.path.Goals as goal
use Rattle.cal_tree.proofs.tree.Tree.path.Goals.{In-loop-step, In_ok-found}

pub depth-depth-requires-clause-known : goal.depth-depth-requires-clause-known
depth-depth-requires-clause-known c = known_of_path (slots_of c.args.self.now) (view c.args.seat.now) c.requires.known.path c.args.node.0 c.requires.known.known

pub loop-step-init : goal.loop-step-init
loop-step-init c =
    let slots = slots_of c.args.self.now in
    let v = view c.depth-depth.new.seat in
    let path = c.requires.known.path in
    let node = c.args.node.0 in
    let depth = c.depth-depth.result in
    let left : depth ≡ depth - 0 = omega arith in
    record {
      seat = c.depth-depth.ensures.seat;
      learns = c.depth-depth.ensures.learns;
      walk = subst (λ (l : List Entry). IsWalked slots v c.args.attrs.now node node (depth - 0) l) (sym c.new-entries.ensures.items) (subst (λ (n : ℕ). IsWalked slots v c.args.attrs.now node node n []) left (walk_begins (plan_of c.args.self.now) v c.depth-depth.ensures.seat.sound c.args.attrs.now path node depth
          (leads_later slots (view c.args.seat.now) v 0 0 path node c.depth-depth.ensures.learns.more c.requires.known.known) c.depth-depth.ensures.depth c.requires.known.fits));
    }

pub node-requires-clause-seat : goal.node-requires-clause-seat
node-requires-clause-seat c = c.loop-step.invariant.seat

pub node-requires-clause-known : goal.node-requires-clause-known
node-requires-clause-known c = let w = c.loop-step.invariant.walk in known_of_path (slots_of c.args.self.now) (view c.loop-step.seat) w.above c.loop-step.at.0 w.here

pub node-requires-clause-below : goal.node-requires-clause-below
node-requires-clause-below c =
    let w = c.loop-step.invariant.walk in
    let left = w.length_left in
    let more = c.loop-step-test.true in
    below_root (slots_of c.args.self.now) (view c.loop-step.seat) w.above c.loop-step.at.0 w.here (omega arith)

pub returns-in_err-found-clause-learns : goal.returns-in_err-found-clause-learns
returns-in_err-found-clause-learns c = learns_then (view c.args.seat.now) (view c.loop-step.seat) (view c.node.new.seat) c.loop-step.invariant.learns c.node.ensures.learns

pub returns-in_err-copy-clause-learns : goal.returns-in_err-copy-clause-learns
returns-in_err-copy-clause-learns c = learns_then (view c.args.seat.now) (view c.loop-step.seat) (view c.node.new.seat) c.loop-step.invariant.learns c.node.ensures.learns

pub returns-in_err-push-clause-learns : goal.returns-in_err-push-clause-learns
returns-in_err-push-clause-learns c = learns_then (view c.args.seat.now) (view c.loop-step.seat) (view c.node.new.seat) c.loop-step.invariant.learns c.node.ensures.learns

-- the entry of the node that was read, and the walk to its parent
went : (c : In_ok-found) → let e : NodeEntry = record { attr = c.in_ok-found.found.attr; value = c.in_ok-found.found.value } in
    Fits c.args.attrs.now e × ((rest : ℕ) → rest + 1 ≡ c.depth-depth.result - c.loop-step._step → IsWalked (slots_of c.args.self.now) (view c.node.new.seat) c.args.attrs.now c.args.node.0 c.in_ok-found.found.parent.0 rest (c.loop-step.entries.items ++ entry_of c.args.attrs.now e ∷ []))
went c =
    let slots = slots_of c.args.self.now in
    let v = view c.loop-step.seat in
    let w = view c.node.new.seat in
    let e : NodeEntry = record { attr = c.in_ok-found.found.attr; value = c.in_ok-found.found.value } in
    let left = c.depth-depth.result - c.loop-step._step in
    let more = c.loop-step-test.true in
    let walk = walk_later slots v w c.args.attrs.now c.args.node.0 c.loop-step.at.0 left c.loop-step.entries.items c.node.ensures.learns.more c.loop-step.invariant.walk in
    walk_goes (plan_of c.args.self.now) w c.node.ensures.seat.sound c.args.attrs.now c.args.node.0 c.loop-step.at.0 left c.loop-step.entries.items walk (omega arith)
    c.in_ok-found.found.parent.0 c.in_ok-found.found.depth e c.in_ok-found.ensures.child

pub bounds-as_slice-attr : goal.bounds-as_slice-attr
bounds-as_slice-attr c =
    let listed = (went (goal.at.bounds-as_slice-attr c).In_ok-found).0.listed in
    let same = ap (λ (l : List _). length l) c.as_slice.ensures in
    omega arith

pub loop-step-preserved : goal.loop-step-preserved
loop-step-preserved c =
    let walk = went (goal.at.loop-step-preserved c).In_ok-found in
    let more = c.loop-step-test.true in
    let e : NodeEntry = record { attr = c.in_ok-found.found.attr; value = c.in_ok-found.found.value } in
    let index = c.in_ok-found.found.attr in
    let name = c.index-as_slice-attr.result in
    let listed : index < length c.args.attrs.now = walk.0.listed in
    let attr : slice_index_or c.args.attrs.now index no_attribute ≡ c.in_ok-copy.field-0 =
    get_or_default c.args.attrs.now index no_attribute name listed ∙ sym (c.in_ok-copy.ensures ∙ c.index-as_slice-attr.is ∙ ap (λ l. slice_index_or l index name) c.as_slice.ensures) in
    let pushed : c.loop-step.entries.items ++ entry_of c.args.attrs.now e ∷ [] ≡ c.push.new.self.items =
    (λ i. c.loop-step.entries.items ++ (let entry : Entry = record { attr = attr i; value = c.in_ok-found.found.value } in entry) ∷ []) ∙ sym c.in_ok-push.ensures.items in
    record {
      seat = c.node.ensures.seat;
      learns = learns_then (view c.args.seat.now) (view c.loop-step.seat) (view c.node.new.seat) c.loop-step.invariant.learns c.node.ensures.learns;
      walk = subst (λ (l : List Entry). IsWalked (slots_of c.args.self.now) (view c.node.new.seat) c.args.attrs.now c.args.node.0 c.in_ok-found.found.parent.0 (c.depth-depth.result - (c.loop-step._step + 1)) l) pushed
          (walk.1 (c.depth-depth.result - (c.loop-step._step + 1)) (omega arith));
    }

pub returns-clause-path : goal.returns-clause-path
returns-clause-path c path l =
    let slots = slots_of c.args.self.now in
    let v = view c.loop-step.seat in
    let inv = c.loop-step.invariant in
    let past = c.loop-step-test.false in
    let ends : c.depth-depth.result - c.loop-step._step ≡ 0 = omega arith in
    let w = walk_ends slots v c.args.attrs.now c.args.node.0 c.loop-step.at.0 c.loop-step.entries.items (subst (λ (n : ℕ). IsWalked slots v c.args.attrs.now c.args.node.0 c.loop-step.at.0 n c.loop-step.entries.items) ends inv.walk) in
    let same = one_path (plan_of c.args.self.now) v inv.seat.sound path w.0 c.args.node.0 l w.1 in
    c.from_vec.ensures ∙ c.reverse.ensures.items ∙ w.2 ∙ ap (entries_of c.args.attrs.now) (sym same)

pub returns-clause-is_path : goal.returns-clause-is_path
returns-clause-is_path c =
    let slots = slots_of c.args.self.now in
    let v = view c.loop-step.seat in
    let past = c.loop-step-test.false in
    let ends : c.depth-depth.result - c.loop-step._step ≡ 0 = omega arith in
    let w = walk_ends slots v c.args.attrs.now c.args.node.0 c.loop-step.at.0 c.loop-step.entries.items (subst (λ (n : ℕ). IsWalked slots v c.args.attrs.now c.args.node.0 c.loop-step.at.0 n c.loop-step.entries.items) ends c.loop-step.invariant.walk) in
    subst (λ (l : List Entry). IsPath l) (sym (c.from_vec.ensures ∙ c.reverse.ensures.items ∙ w.2)) (path_of_fits c.args.attrs.now w.0 (some_path slots v w.0 c.args.node.0 w.1 c.requires.known.below) w.3)
