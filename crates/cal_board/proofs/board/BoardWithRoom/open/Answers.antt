use Rattle.std.proofs.Common.{List, [], ◌∷◌, ◌++◌, ◌≡◌, ap, arith, if◌then◌else◌, subst, sym, ◌∙◌}
use Rattle.cal_board.proofs.SlotLemmas.{OnOk-then}
use Rattle.cal_board.proofs.StandingLemmas.{begun-Stands, held_long, opened_in-Stands, parent_of}
use Rattle.cal_board.specs.Blackboard.{Blackboard, begun, opened_more, slot_number}
use Rattle.cal_board.specs.Slots.{last_value, opened_in, with_slot}
use Rattle.cal_board.specs.Standing.{IsParent, Stands}
use Rattle.cal_board.specs.declared.opened.Opened.{Opened}
use Rattle.cal_board.specs.declared.opened.Slot.{Slot}
use Rattle.cal_value.specs.declared.variant.Variant.{Variant}
use Rattle.cal_board.proofs.LimitLemmas.{either_way, few-references, more-as_values, more-references}
use Rattle.cal_board.specs.Blackboard.{IsWithin, begin_reply}
use Rattle.cal_board.specs.declared.reply.BoardReply.TheVariants as reply
use Rattle.cal_board.proofs.board.BoardWithRoom.open.Goals as goal

pub child-requires-clause-parent : goal.child-requires-clause-parent
child-requires-clause-parent g c =
    let P = g.M.NodeMaker.is_node c.args.maker.now in
    let k = slot_number c.args.attr in
    let b = c.requires.stands.0 in
    let e = c.last_value-parent.ensures ∙ ap last_value (c.opened.ensures
    ∙ ap (λ n. opened_in n c.self.inside.references) c.slot-else-attr.ensures
    ∙ ap (λ (h : Blackboard g.row.N.Denot). opened_in k h.references) c.self.view_is) in
    let stand = opened_in-Stands P k _ _ c.requires.stands.1.references in
    let long = held_long P _ _ stand in
    let few = few-references c.args.self.now c.args.attr c.if-attr.false c.requires.room in (
      opened_in k b.references,
      subst (λ o. IsParent P o (opened_in k b.references)) (sym e) (parent_of P _ _ stand),
      omega (arith, long, few),
    )

pub returns-in_ok-value-2-clause-stands : goal.returns-in_ok-value-2-clause-stands
returns-in_ok-value-2-clause-stands g c =
    let P = g.M.NodeMaker.is_node c.args.maker.now in
    let Q = g.M.NodeMaker.is_node c.child.new.self in
    let a = c.args.attr in
    let k = slot_number a in
    let v = g.M.NodeMaker.value_of c.args.maker.now c.args.value in
    let node = c.in_ok-value-2.value in
    let R = c.self.inside.references in
    let e = c.last_value-parent.ensures ∙ ap last_value (c.opened.ensures
    ∙ ap (λ n. opened_in n R) c.slot-else-attr.ensures
    ∙ ap (λ (h : Blackboard g.row.N.Denot). opened_in k h.references) c.self.view_is) in
    let stays = λ (n : g.row.N.Denot) (path : List (Opened Variant)) (is : P n path). g.met.M.NodeMaker.stays c.args.maker.now c.child.new.self n path c.in_ok-value-2.ensures.onward is in
    let made = λ (path : List (Opened Variant)) (p : IsParent P (last_value (opened_in k c.args.self.now.references)) path).
    c.in_ok-value-2.ensures.made path (subst (λ o. IsParent P o path) (sym e) p) in
    OnOk-then c.push-else-attr.result
    (λ (pushed : c.push-else-attr.new.self ≡ with_slot c.slot-else-attr-2.result (opened_in c.slot-else-attr-2.result R ++ record { attribute = a.number; value = node } ∷ []) R) (b : Blackboard Variant) (is : Stands P c.args.self.now b).
    let same : record { references = c.push-else-attr.new.self; as_values = c.self.inside.as_values } ≡ begun c.args.self.now a node v =
    (λ j. record { references = (pushed ∙ ap (λ n. with_slot n (opened_in n R ++ record { attribute = a.number; value = node } ∷ []) R) c.slot-else-attr-2.ensures) j; as_values = c.self.inside.as_values })
    ∙ ap (λ (h : Blackboard g.row.N.Denot). record { references = with_slot k (opened_more a.number node (opened_in k h.references)) h.references; as_values = h.as_values }) c.self.view_is
    ∙ sym (ap (λ t. if t then record { references = c.args.self.now.references; as_values = with_slot k (opened_more a.number v (opened_in k c.args.self.now.as_values)) c.args.self.now.as_values }
    else record { references = with_slot k (opened_more a.number node (opened_in k c.args.self.now.references)) c.args.self.now.references; as_values = c.args.self.now.as_values }) c.if-attr.false) in
    subst (λ h. Stands Q h (begun b a v v)) (sym same) (begun-Stands P Q stays c.args.self.now b a node v is made))
    c.push-else-attr.ensures.pushed

pub invariant_of-self : goal.invariant_of-self
invariant_of-self g c =
    let a = c.args.attr in
    let b : Blackboard g.row.N.Denot = record { references = c.self.inside.references; as_values = c.self.inside.as_values } in
    let room : begin_reply b a ≡ reply.Done = (λ j. begin_reply (c.self.view_is j) a) ∙ c.requires.room in
    either_way c.push.result c.push.ensures.pushed c.push.ensures.err
    (λ pushed. more-as_values b c.self.invariant a c.slot.result _ c.push.new.self c.slot.ensures c.if-attr.true room pushed)
    (λ same. subst (λ xs. IsWithin (record { references = c.self.inside.references; as_values = xs })) (sym same) c.self.invariant)

pub invariant_of-self-else-attr : goal.invariant_of-self-else-attr
invariant_of-self-else-attr g c =
    let a = c.args.attr in
    let b : Blackboard g.row.N.Denot = record { references = c.self.inside.references; as_values = c.self.inside.as_values } in
    let room : begin_reply b a ≡ reply.Done = (λ j. begin_reply (c.self.view_is j) a) ∙ c.requires.room in
    either_way c.push-else-attr.result c.push-else-attr.ensures.pushed c.push-else-attr.ensures.err
    (λ pushed. more-references b c.self.invariant a c.slot-else-attr-2.result _ c.push-else-attr.new.self c.slot-else-attr-2.ensures c.if-attr.false room pushed)
    (λ same. subst (λ xs. IsWithin (record { references = xs; as_values = c.self.inside.as_values })) (sym same) c.self.invariant)
