use Rattle.std.proofs.Common.{List, [], ◌∷◌, ◌++◌, ◌≡◌, ◌<◌, length, ap, arith, set, subst, sym, ◌∙◌, length-set}
use Rattle.std.proofs.lemmas.List.{length-append}
use Rattle.cal_board.proofs.SlotLemmas.{AreOrdered-with_slot, changed-at, opened_in-at, opened_in-gap}
use Rattle.cal_board.specs.Slots.{AreOrdered, IsAt, IsGap, front, opened_in, with_slot}
use Rattle.cal_board.specs.declared.opened.Opened.{Opened}
use Rattle.cal_board.specs.declared.opened.Slot.{Slot}
use Rattle.cal_board.proofs.slots.Slots.replace.Goals as goal

pub returns-in_default : goal.returns-in_default
returns-in_default g c =
    let gap = subst (λ (xs : List (Slot g.row.V.Denot)). IsGap xs c.args.number c.in_default.field-0) c.deref.ensures.value c.in_default.ensures in
    let none = ap (opened_in c.args.number) (sym c.self.view_is) ∙ opened_in-gap c.self.inside.slots.items c.self.invariant.ordered c.args.number c.in_default.field-0 gap in
    absurd (let e = ap length none in omega (arith, e, c.requires))

pub invariant_of-self : goal.invariant_of-self
invariant_of-self g c =
    let xs = c.self.inside.slots.items in
    let n = c.args.number in
    let p = c.in-Ok.place in
    let at = subst (λ (xs : List (Slot g.row.V.Denot)). IsAt xs n p) c.deref.ensures.value c.in-Ok.ensures in
    let slot = c.index_mut.result.now in
    let there = ap (λ (s : Slot g.row.V.Denot). s.opened) c.index_mut.ensures.value ∙ sym (opened_in-at xs c.self.invariant.ordered n p at slot) in
    let long = length-append (front (opened_in n xs)) (c.args.opened ∷ []) in
    let ordered : AreOrdered (set xs p (record { number = slot.number; opened = c.set_last.new.self })) =
    subst AreOrdered (sym (
    ap (λ (os : List (Opened g.row.V.Denot)). set xs p (record { number = slot.number; opened = os })) (c.set_last.ensures ∙ ap (λ (os : List (Opened g.row.V.Denot)). front os ++ c.args.opened ∷ []) there)
    ∙ changed-at xs c.self.invariant.ordered n p at slot.number (front (opened_in n xs) ++ c.args.opened ∷ []) (omega (arith, long))
    (ap (λ (s : Slot g.row.V.Denot). s.number) c.index_mut.ensures.value ∙ at.number_is slot)))
    (AreOrdered-with_slot xs n (front (opened_in n xs) ++ c.args.opened ∷ []) c.self.invariant.ordered) in
    record {
      ordered = ordered;
      slots = c.self.invariant.slots;
      spare = c.self.invariant.spare;
      all = omega (arith, c.self.invariant.all, length-set xs p (record { number = slot.number; opened = c.set_last.new.self }));
    }

pub returns : goal.returns
returns g c =
    let xs = c.self.inside.slots.items in
    let n = c.args.number in
    let p = c.in-Ok.place in
    let at = subst (λ (xs : List (Slot g.row.V.Denot)). IsAt xs n p) c.deref.ensures.value c.in-Ok.ensures in
    let slot = c.index_mut.result.now in
    let there = ap (λ (s : Slot g.row.V.Denot). s.opened) c.index_mut.ensures.value ∙ sym (opened_in-at xs c.self.invariant.ordered n p at slot) in
    let long = length-append (front (opened_in n xs)) (c.args.opened ∷ []) in
    rw (sym c.self.view_is) (
    ap (λ (os : List (Opened g.row.V.Denot)). set xs p (record { number = slot.number; opened = os })) (c.set_last.ensures ∙ ap (λ (os : List (Opened g.row.V.Denot)). front os ++ c.args.opened ∷ []) there)
    ∙ changed-at xs c.self.invariant.ordered n p at slot.number (front (opened_in n xs) ++ c.args.opened ∷ []) (omega (arith, long))
    (ap (λ (s : Slot g.row.V.Denot). s.number) c.index_mut.ensures.value ∙ at.number_is slot))
