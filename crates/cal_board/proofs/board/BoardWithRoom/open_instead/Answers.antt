use Rattle.std.proofs.Common.{List, [], ◌∷◌, ◌++◌, ◌≡◌, ap, arith, if◌then◌else◌, subst, sym, ◌∙◌}
use Rattle.cal_board.proofs.StandingLemmas.{OpenedStand-front, held_long, instead-Stands, opened_in-Stands, parent_of}
use Rattle.cal_board.specs.Blackboard.{Blackboard, IsWithin, opened_instead, slot_number, with_values}
use Rattle.cal_board.specs.Slots.{front, last_value, opened_in, with_slot}
use Rattle.cal_board.specs.Standing.{IsParent, Stands}
use Rattle.cal_board.specs.declared.opened.Opened.{Opened}
use Rattle.cal_value.specs.declared.variant.Variant.{Variant}
use Rattle.std.proofs.Common.{◌<◌}
use Rattle.cal_board.proofs.LimitLemmas.{few-before, instead-as_values, instead-references, there-as_values, there-references}
use Rattle.cal_board.specs.Blackboard.{depth_at}
use Rattle.cal_board.proofs.board.BoardWithRoom.open_instead.Goals as goal

pub child-requires-clause-parent : goal.child-requires-clause-parent
child-requires-clause-parent g c =
    let P = g.M.NodeMaker.is_node c.args.maker.now in
    let k = slot_number c.args.attr in
    let b = c.requires.stands.0 in
    let e = c.value_before-parent.ensures ∙ ap (λ (os : List (Opened g.row.N.Denot)). last_value (front os)) (c.opened.ensures
    ∙ ap (λ n. opened_in n c.self.inside.references) c.slot-else-attr.ensures
    ∙ ap (λ (h : Blackboard g.row.N.Denot). opened_in k h.references) c.self.view_is) in
    let stand = OpenedStand-front P _ _ (opened_in-Stands P k _ _ c.requires.stands.1.references) in
    let long = held_long P _ _ stand in
    let few = few-before c.args.self.now (subst IsWithin c.self.view_is c.self.invariant) k in (
      front (opened_in k b.references),
      subst (λ o. IsParent P o (front (opened_in k b.references))) (sym e) (parent_of P _ _ stand),
      omega (arith, long, few),
    )

pub returns-in_ok-value-2-clause-stands : goal.returns-in_ok-value-2-clause-stands
returns-in_ok-value-2-clause-stands g c =
    let P = g.M.NodeMaker.is_node c.args.maker.now in
    let Q = g.M.NodeMaker.is_node c.child.new.self in
    let a = c.args.attr in
    let k = slot_number a in
    let v = g.M.NodeMaker.value_of c.args.maker.now c.args.value in
    let node = c.in_ok-value-2.value in
    let R = c.self.inside.references in
    let e = c.value_before-parent.ensures ∙ ap (λ (os : List (Opened g.row.N.Denot)). last_value (front os)) (c.opened.ensures
    ∙ ap (λ n. opened_in n R) c.slot-else-attr.ensures
    ∙ ap (λ (h : Blackboard g.row.N.Denot). opened_in k h.references) c.self.view_is) in
    let stays = λ (n : g.row.N.Denot) (path : List (Opened Variant)) (is : P n path). g.met.M.NodeMaker.stays c.args.maker.now c.child.new.self n path c.in_ok-value-2.ensures.onward is in
    let made = λ (path : List (Opened Variant)) (p : IsParent P (last_value (front (opened_in k c.args.self.now.references))) path).
    c.in_ok-value-2.ensures.made path (subst (λ o. IsParent P o path) (sym e) p) in
    λ (b : Blackboard Variant) (is : Stands P c.args.self.now b).
    let same : record { references = c.replace-else-attr.new.self; as_values = c.self.inside.as_values }
    ≡ with_values c.args.self.now a (opened_instead a.number node) (opened_instead a.number v) =
    (λ j. record { references = (c.replace-else-attr.ensures ∙ ap (λ n. with_slot n (front (opened_in n R) ++ record { attribute = a.number; value = node } ∷ []) R) c.slot-else-attr-2.ensures) j; as_values = c.self.inside.as_values })
    ∙ ap (λ (h : Blackboard g.row.N.Denot). record { references = with_slot k (opened_instead a.number node (opened_in k h.references)) h.references; as_values = h.as_values }) c.self.view_is
    ∙ sym (ap (λ t. if t then record { references = c.args.self.now.references; as_values = with_slot k (opened_instead a.number v (opened_in k c.args.self.now.as_values)) c.args.self.now.as_values }
    else record { references = with_slot k (opened_instead a.number node (opened_in k c.args.self.now.references)) c.args.self.now.references; as_values = c.args.self.now.as_values }) c.if-attr.false) in
    subst (λ h. Stands Q h (with_values b a (opened_instead a.number v) (opened_instead a.number v))) (sym same)
    (instead-Stands P Q stays c.args.self.now b a node v is made)

pub invariant_of-self : goal.invariant_of-self
invariant_of-self g c =
    let a = c.args.attr in
    let b : Blackboard g.row.N.Denot = record { references = c.self.inside.references; as_values = c.self.inside.as_values } in
    let there : 0 < depth_at b a = subst (λ (h : Blackboard g.row.N.Denot). 0 < depth_at h a) (sym c.self.view_is) c.requires.there in
    instead-as_values b c.self.invariant c.slot.result _ c.replace.new.self
    (there-as_values b c.self.invariant a c.slot.result c.slot.ensures c.if-attr.true there) c.replace.ensures

pub invariant_of-self-else-attr : goal.invariant_of-self-else-attr
invariant_of-self-else-attr g c =
    let a = c.args.attr in
    let b : Blackboard g.row.N.Denot = record { references = c.self.inside.references; as_values = c.self.inside.as_values } in
    let there : 0 < depth_at b a = subst (λ (h : Blackboard g.row.N.Denot). 0 < depth_at h a) (sym c.self.view_is) c.requires.there in
    instead-references b c.self.invariant c.slot-else-attr-2.result _ c.replace-else-attr.new.self
    (there-references b c.self.invariant a c.slot-else-attr-2.result c.slot-else-attr-2.ensures c.if-attr.false there) c.replace-else-attr.ensures
