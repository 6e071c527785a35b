use Rattle.std.proofs.Common.{List, [], ◌≡◌, ◌<◌, ◌≤◌, ◌-◌, length, ap, arith, set, subst, sym, ◌∙◌, ⊎_elim, vec_len}
use Rattle.std.specs.Prelude.{vec_capacity}
use Rattle.std.proofs.lemmas.Bool.{cases_lt}
use Rattle.std.proofs.lemmas.List.{length-take, nil_from_length}
use Rattle.cal_board.proofs.SlotLemmas.{AreOrdered-with_slot, changed-at, opened_in-at, popped-gap, removed-at}
use Rattle.cal_board.specs.Slots.{AreOrdered, IsAt, IsGap, front, opened_in, with_slot}
use Rattle.cal_board.specs.declared.opened.Opened.{Opened}
use Rattle.cal_board.specs.declared.opened.Slot.{Slot}
use Rattle.cal_board.proofs.slots.Slots.pop.Goals as goal

pub returns-in_default : goal.returns-in_default
returns-in_default g c =
    let gap = subst (λ (xs : List (Slot g.row.V.Denot)). IsGap xs c.args.number c.in_default.field-0) c.deref.ensures.value c.in_default.ensures in
    rw (sym c.self.view_is) (popped-gap c.self.inside.slots.items c.self.invariant.ordered c.args.number c.in_default.field-0 gap)

pub invariant_of-self-else-len-gt1 : goal.invariant_of-self-else-len-gt1
invariant_of-self-else-len-gt1 g c =
    let xs = c.self.inside.slots.items in
    let n = c.args.number in
    let p = c.in-Ok.place in
    let at = subst (λ (xs : List (Slot g.row.V.Denot)). IsAt xs n p) c.deref.ensures.value c.in-Ok.ensures in
    let held = c.self.inside.slots.ok in
    let free = c.self.inside.spare.ok in
    let left = c.remove-values.new.self.ok in
    let kept = c.keep.new.spare.ok in
    record {
      ordered = subst AreOrdered (sym (c.remove-values.ensures.items ∙ removed-at xs c.self.invariant.ordered n p at))
          (AreOrdered-with_slot xs n [] c.self.invariant.ordered);
      slots = omega (arith, c.self.invariant.slots, c.remove-values.ensures.capacity);
      spare = omega (arith, c.self.invariant.spare, c.keep.ensures.capacity);
      all = ⊎_elim
          (λ (l : vec_len c.self.inside.spare < vec_capacity c.self.inside.spare).
          omega (arith, c.self.invariant.all, c.remove-values.ensures.len, c.keep.ensures.kept l, held, free, left, kept))
          (λ (l : vec_capacity c.self.inside.spare ≤ vec_len c.self.inside.spare).
          omega (arith, c.self.invariant.spare, c.keep.ensures.fewer, l, kept))
          (cases_lt (vec_len c.self.inside.spare) (vec_capacity c.self.inside.spare));
    }

pub returns-then-len-gt1 : goal.returns-then-len-gt1
returns-then-len-gt1 g c =
    let xs = c.self.inside.slots.items in
    let n = c.args.number in
    let p = c.in-Ok.place in
    let at = subst (λ (xs : List (Slot g.row.V.Denot)). IsAt xs n p) c.deref.ensures.value c.in-Ok.ensures in
    let slot = c.index_mut.result.now in
    let there = ap (λ (s : Slot g.row.V.Denot). s.opened) c.index_mut.ensures.value ∙ sym (opened_in-at xs c.self.invariant.ordered n p at slot) in
    let before = ap (λ (s : Slot g.row.V.Denot). length s.opened) c.index.ensures ∙ ap length (sym (opened_in-at xs c.self.invariant.ordered n p at c.index.result.now)) in
    let cut = length-take (length (opened_in n xs) - 1) (opened_in n xs) in
    rw (sym c.self.view_is) (
    ap (λ (os : List (Opened g.row.V.Denot)). set xs p (record { number = slot.number; opened = os })) (c.drop_last.ensures ∙ ap front there)
    ∙ changed-at xs c.self.invariant.ordered n p at slot.number (front (opened_in n xs)) (omega (arith, cut, before, c.len.ensures, c.if-len-gt1.true))
    (ap (λ (s : Slot g.row.V.Denot). s.number) c.index_mut.ensures.value ∙ at.number_is slot))

pub returns-else-len-gt1 : goal.returns-else-len-gt1
returns-else-len-gt1 g c =
    let xs = c.self.inside.slots.items in
    let n = c.args.number in
    let p = c.in-Ok.place in
    let at = subst (λ (xs : List (Slot g.row.V.Denot)). IsAt xs n p) c.deref.ensures.value c.in-Ok.ensures in
    let before = ap (λ (s : Slot g.row.V.Denot). length s.opened) c.index.ensures ∙ ap length (sym (opened_in-at xs c.self.invariant.ordered n p at c.index.result.now)) in
    let cut = length-take (length (opened_in n xs) - 1) (opened_in n xs) in
    let none : front (opened_in n xs) ≡ [] = nil_from_length (front (opened_in n xs)) (omega (arith, cut, before, c.len.ensures, c.if-len-gt1.false)) in
    rw (sym c.self.view_is) (c.remove-values.ensures.items ∙ removed-at xs c.self.invariant.ordered n p at
    ∙ ap (λ (os : List (Opened g.row.V.Denot)). with_slot n os xs) (sym none))
