use Rattle.std.proofs.Common.{List, ap, subst, sym, ◌∙◌}
use Rattle.cal_board.proofs.SlotLemmas.{opened_in-at, opened_in-gap}
use Rattle.cal_board.specs.Slots.{IsAt, IsGap}
use Rattle.cal_board.specs.declared.opened.Slot.{Slot}
use Rattle.cal_board.proofs.slots.Slots.opened.Goals as goal

pub returns-in-Ok : goal.returns-in-Ok
returns-in-Ok g c =
    let at = subst (λ (xs : List (Slot g.row.V.Denot)). IsAt xs c.args.number c.in-Ok.place) c.deref.ensures.value c.in-Ok.ensures in
    rw (sym c.self.view_is) (c.as_slice.ensures ∙ ap (λ (s : Slot g.row.V.Denot). s.opened) c.index.ensures
    ∙ sym (opened_in-at c.self.inside.slots.items c.self.invariant.ordered c.args.number c.in-Ok.place at c.index.result.now))

pub returns-in-Err : goal.returns-in-Err
returns-in-Err g c =
    let gap = subst (λ (xs : List (Slot g.row.V.Denot)). IsGap xs c.args.number c.in-Err.field-0) c.deref.ensures.value c.in-Err.ensures in
    rw (sym c.self.view_is) (sym (opened_in-gap c.self.inside.slots.items c.self.invariant.ordered c.args.number c.in-Err.field-0 gap))
