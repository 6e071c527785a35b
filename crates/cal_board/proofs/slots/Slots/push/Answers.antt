use Rattle.std.proofs.Common.{List, [], ◌∷◌, ◌++◌, ◌≡◌, ◌<◌, length, ap, arith, insert, set, subst, sym, ◌∙◌}
use Rattle.std.proofs.lemmas.List.{length-append}
use Rattle.cal_board.proofs.SlotLemmas.{AreOrdered-with_slot, OnOk-then, changed-at, opened_in-at, opened_in-gap, pushed-gap}
use Rattle.std.proofs.lemmas.Bool.{false≢true}
use Rattle.cal_board.specs.Slots.{AreOrdered, IsAt, IsGap, opened_in, with_slot}
use Rattle.cal_board.specs.declared.opened.Opened.{Opened}
use Rattle.cal_board.specs.declared.opened.Slot.{Slot}
use Rattle.cal_board.proofs.slots.Slots.push.Goals as goal

pub invariant_of-self-in-Err : goal.invariant_of-self-in-Err
invariant_of-self-in-Err g c =
    let xs = c.self.inside.slots.items in
    let n = c.args.number in
    let p = c.in-Err.place in
    let gap = subst (λ (xs : List (Slot g.row.V.Denot)). IsGap xs n p) c.deref.ensures.value c.in-Err.ensures in
    let held = c.self.inside.slots.ok in
    let free = c.self.inside.spare.ok in
    let more = c.insert.new.self.ok in
    let fewer = c.stack_of.new.spare.ok in
    record {
      ordered = subst AreOrdered (sym (c.in_ok-insert-in-Err.ensures.items
          ∙ ap (λ (os : List (Opened g.row.V.Denot)). insert xs p (record { number = n; opened = os })) c.in_ok-opened-in-Err.ensures.made
          ∙ pushed-gap xs c.self.invariant.ordered n p gap c.args.opened))
          (AreOrdered-with_slot xs n (opened_in n xs ++ c.args.opened ∷ []) c.self.invariant.ordered);
      slots = omega (arith, c.self.invariant.slots, c.in_ok-insert-in-Err.ensures.capacity);
      spare = omega (arith, c.self.invariant.spare, c.stack_of.ensures.capacity);
      all = omega (arith, c.self.invariant.all, c.in_ok-insert-in-Err.ensures.len, c.stack_of.ensures.one, held, free, more, fewer);
    }

pub returns-in-Ok-clause-pushed : goal.returns-in-Ok-clause-pushed
returns-in-Ok-clause-pushed g c =
    let xs = c.self.inside.slots.items in
    let n = c.args.number in
    let p = c.in-Ok.place in
    let at = subst (λ (xs : List (Slot g.row.V.Denot)). IsAt xs n p) c.deref.ensures.value c.in-Ok.ensures in
    let slot = c.index_mut.result.now in
    let there = ap (λ (s : Slot g.row.V.Denot). s.opened) c.index_mut.ensures.value ∙ sym (opened_in-at xs c.self.invariant.ordered n p at slot) in
    let long = length-append (opened_in n xs) (c.args.opened ∷ []) in
    rw (sym c.self.view_is) (OnOk-then c.push.result
    (λ (e : c.push.new.self ≡ slot.opened ++ c.args.opened ∷ []).
    ap (λ (os : List (Opened g.row.V.Denot)). set xs p (record { number = slot.number; opened = os })) (e ∙ ap (λ (os : List (Opened g.row.V.Denot)). os ++ c.args.opened ∷ []) there)
    ∙ changed-at xs c.self.invariant.ordered n p at slot.number (opened_in n xs ++ c.args.opened ∷ []) (omega (arith, long))
    (ap (λ (s : Slot g.row.V.Denot). s.number) c.index_mut.ensures.value ∙ at.number_is slot))
    c.push.ensures.ok)

pub returns-in_ok-insert-in-Err-clause-pushed : goal.returns-in_ok-insert-in-Err-clause-pushed
returns-in_ok-insert-in-Err-clause-pushed g c =
    let xs = c.self.inside.slots.items in
    let n = c.args.number in
    let p = c.in-Err.place in
    let gap = subst (λ (xs : List (Slot g.row.V.Denot)). IsGap xs n p) c.deref.ensures.value c.in-Err.ensures in
    rw (sym c.self.view_is) (c.in_ok-insert-in-Err.ensures.items
    ∙ ap (λ (os : List (Opened g.row.V.Denot)). insert xs p (record { number = n; opened = os })) c.in_ok-opened-in-Err.ensures.made
    ∙ pushed-gap xs c.self.invariant.ordered n p gap c.args.opened)

-- an existing slot has room for the value
pub returns-in-Ok-clause-room : goal.returns-in-Ok-clause-room
returns-in-Ok-clause-room g c few first =
    let xs = c.self.inside.slots.items in
    let n = c.args.number in
    let p = c.in-Ok.place in
    let at = subst (λ (xs : List (Slot g.row.V.Denot)). IsAt xs n p) c.deref.ensures.value c.in-Ok.ensures in
    let slot = c.index_mut.result.now in
    let there = ap (λ (s : Slot g.row.V.Denot). s.opened) c.index_mut.ensures.value ∙ sym (opened_in-at xs c.self.invariant.ordered n p at slot) in
    let long : length slot.opened ≡ length (opened_in n c.args.self.now) =
    ap length (there ∙ ap (opened_in n) c.self.view_is) in
    c.push.ensures.room (omega (arith, few, long))

-- a new one has a spare stack, and a place
pub returns-in_err-opened-in-Err-clause-room : goal.returns-in_err-opened-in-Err-clause-room
returns-in_err-opened-in-Err-clause-room g c few first =
    let xs = c.self.inside.slots.items in
    let n = c.args.number in
    let p = c.in-Err.place in
    let gap = subst (λ (xs : List (Slot g.row.V.Denot)). IsGap xs n p) c.deref.ensures.value c.in-Err.ensures in
    let none = ap (opened_in n) (sym c.self.view_is) ∙ opened_in-gap xs c.self.invariant.ordered n p gap in
    let less = first none in
    let long = ap (λ (ys : List (Slot g.row.V.Denot)). length ys) c.self.view_is in
    let free = c.self.inside.spare.ok in
    absurd (false≢true (c.in_err-opened-in-Err.ensures.room (omega (arith, less, long, c.self.invariant.all, free))))

pub returns-in_err-insert-in-Err-clause-room : goal.returns-in_err-insert-in-Err-clause-room
returns-in_err-insert-in-Err-clause-room g c few first =
    let xs = c.self.inside.slots.items in
    let n = c.args.number in
    let p = c.in-Err.place in
    let gap = subst (λ (xs : List (Slot g.row.V.Denot)). IsGap xs n p) c.deref.ensures.value c.in-Err.ensures in
    let none = ap (opened_in n) (sym c.self.view_is) ∙ opened_in-gap xs c.self.invariant.ordered n p gap in
    let less = first none in
    let long = ap (λ (ys : List (Slot g.row.V.Denot)). length ys) c.self.view_is in
    let held = c.self.inside.slots.ok in
    absurd (false≢true (c.in_err-insert-in-Err.ensures.succeeds (omega (arith, less, long, c.self.invariant.slots, held))))
