use Rattle.std.proofs.Common.{◌≡◌, ℕ, ◌+◌, ◌<◌, ◌⊎◌, length, subst, sym, ◌∙◌, arith}
use Rattle.cal_once.specs.Seats.{view}
use Rattle.cal_once.specs.Views.{IsParent}
use Rattle.cal_tree.specs.Paths.{HasPath, IsChild, NodeEntry}
use Rattle.cal_tree.specs.Seats.{plan_of, slots_of}
use Rattle.cal_tree.proofs.Nodes.{parent_of_child}
use Rattle.cal_tree.proofs.Ways.{child_later, leads_last, one_parent}
use Rattle.cal_tree.proofs.tree.Tree.read.Goals as goal

pub reach-requires-clause-parent : goal.reach-requires-clause-parent
reach-requires-clause-parent c =
    let found = c.in_ok-found.found in
    let slots = slots_of c.args.self.now in
    let v = view c.node.new.seat in
    subst (λ (n : ℕ). (n ≡ 0) ⊎ ((place : ℕ) × (n ≡ place + 1) × (place < slots) × IsParent v slots place))
    (sym c.from.ensures)
    (parent_of_child (plan_of c.args.self.now) v c.in_ok-found.ensures.seat.sound found.parent.0
    found.depth (record { attr = found.attr; value = found.value }) c.args.node.0 c.in_ok-found.ensures.child)

pub returns-clause-path : goal.returns-clause-path
returns-clause-path c path e l =
    let found = c.in_ok-found.found in
    let entry : NodeEntry = record { attr = found.attr; value = found.value } in
    let slots = slots_of c.args.self.now in
    let w = view c.reach.new.seat in
    let r = leads_last slots w 0 0 path e c.args.node.0 l in
    let child : IsChild slots w found.parent.0 found.depth entry c.args.node.0 =
    child_later slots (view c.node.new.seat) w found.parent.0 found.depth entry c.args.node.0
    c.reach.ensures.learns.more c.in_ok-found.ensures.child in
    let same = one_parent (plan_of c.args.self.now) w c.reach.ensures.seat.sound r.0 found.parent.0
    (0 + length path + 1) found.depth e entry c.args.node.0 r.2 child in
    let deep : 0 + length path + 1 ≡ length path + 1 = omega arith in
    (subst (λ (n : ℕ). HasPath slots w path n) same.0 r.1, same.2, sym same.1 ∙ deep)
