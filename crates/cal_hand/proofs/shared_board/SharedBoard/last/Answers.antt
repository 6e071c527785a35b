use Rattle.std.proofs.Common.{◌≡◌, ◌-◌, length, get_or, ap, subst, sym, ◌∙◌, Some, None, ◌++◌, ◌∷◌, []}
use Rattle.std.specs.Prelude.{option_map}
use Rattle.cal_board.proofs.SlotLemmas.{IfOk-then}
use Rattle.cal_board.specs.Blackboard.{Blackboard, slot_number}
use Rattle.cal_board.specs.PathBoards.{entry_in, last_at}
use Rattle.cal_board.specs.Slots.{front, last_value, opened_in}
use Rattle.cal_board.specs.declared.opened.Opened.{Opened}
use Rattle.cal_hand.proofs.LastLemmas.{front_and_last, last_at-reference, last_there, node_stands, none_there}
use Rattle.cal_hand.specs.Nodes.{NodeAt}
use Rattle.cal_value.specs.declared.attribute.Entry.{Entry}
use Rattle.cal_value.specs.declared.variant.Variant.{Variant}
use Rattle.cal_words.specs.declared.node.NodeId.{NodeId}
use Rattle.cal_hand.proofs.shared_board.SharedBoard.last.Goals as goal

pub entry_of_node-requires-clause-node : goal.entry_of_node-requires-clause-node
entry_of_node-requires-clause-node c =
    let P = NodeAt c.args.tree.now c.args.seat.now in
    let a = c.args.attr in
    let n = c.in-Some.node.now in
    let r = c.requires.last in
    let os = opened_in (slot_number a) r.board.references in
    let top : last_value (opened_in (slot_number a) c.args.self.now.references) ≡ Some n =
    sym (c.in-Some.ensures ∙ ap (λ (h : Blackboard NodeId).
    last_value (opened_in (slot_number a) h.references)) c.self.view_is) in
    let is = node_stands P c.args.self.now r.board r.stands a c.if-attr.false n top in
    let last = sym (last_at-reference P c.args.self.now r.board r.stands a c.if-attr.false) ∙ r.is_last in
    (front os, r.last, subst (P n) (front_and_last os r.last last) is, r.listed)

pub unreachable-requires : goal.unreachable-requires
unreachable-requires c =
    let P = NodeAt c.args.tree.now c.args.seat.now in
    let a = c.args.attr in
    let r = c.requires.last in
    let none : last_value (opened_in (slot_number a) c.args.self.now.references) ≡ None =
    sym (c.in-None.ensures ∙ ap (λ (h : Blackboard NodeId).
    last_value (opened_in (slot_number a) h.references)) c.self.view_is) in
    let empty = none_there P c.args.self.now r.board r.stands a c.if-attr.false none in
    let there = r.is_last in
    cc

pub returns-clause-entry : goal.returns-clause-entry
returns-clause-entry c b is =
    let P = NodeAt c.args.tree.now c.args.seat.now in
    let a = c.args.attr in
    let n = c.in-Some.node.now in
    let attrs = c.args.attrs.now in
    let d = c.requires.last.last in
    let os = opened_in (slot_number a) b.references in
    let o : Opened Variant = get_or os (length os - 1) d in
    let top : last_value (opened_in (slot_number a) c.args.self.now.references) ≡ Some n =
    sym (c.in-Some.ensures ∙ ap (λ (h : Blackboard NodeId).
    last_value (opened_in (slot_number a) h.references)) c.self.view_is) in
    let there = last_there P c.args.self.now b is a c.if-attr.false n top d in
    let last = sym (last_at-reference P c.args.self.now b is a c.if-attr.false) ∙ there in
    let at = subst (P n) (front_and_last os o last)
    (node_stands P c.args.self.now b is a c.if-attr.false n top) in
    IfOk-then c.entry_of_node.result
    (λ (entry : Entry) (e : entry ≡ entry_in attrs o).
    ap (option_map (entry_in attrs)) there ∙ ap Some (sym e))
    (c.entry_of_node.ensures.entry (front os) o at)
