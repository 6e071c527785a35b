use Rattle.std.proofs.Common.{◌≡◌, ℕ, [], ap, ◌∙◌, sym, subst, arith}
use Rattle.cal_book.specs.declared.merging.Merging.{Ghosts as Merging}
use Rattle.cal_book.specs.Steps.{Mine}
use Rattle.cal_book.specs.Turns.{Carries}
use Rattle.cal_book.specs.Views.{giving}
use Rattle.cal_book.proofs.Gives.{allows_give, allows_give_up}
use Rattle.cal_book.proofs.cell.FlushCell.fill.Goals as goal

-- the seat is as it was
carries_again : {T Q : Type 0} (law : Merging T Q) (q : Q) (thread : ℕ) (part : T)
    (before after : Mine T Q) → after ≡ before → Carries law q thread part before
    → Carries law q thread part after
carries_again law q thread part before after same = subst (Carries law q thread part) (sym same)

pub store-requires : goal.store-requires
store-requires g c =
    let cell = c.args.self.now in
    let words = cell.one_word in
    let seat = c.pour.new.seat in
    let at = c.pour.ensures.seat in (
      at.table,
      omega arith,
      allows_give g.T.Merging cell.table.shared.key cell.table.shared.table_id.slots seat.id
          c.args.thread c.args.part seat.me at.shape c.in-Ok.ensures.filled,
    )

pub store-requires-in-Err : goal.store-requires-in-Err
store-requires-in-Err g c =
    let cell = c.args.self.now in
    let words = cell.one_word in
    let seat = c.pour.new.seat in
    let at = c.pour.ensures.seat in (
      at.table,
      omega arith,
      allows_give_up g.T.Merging cell.table.shared.key cell.table.shared.table_id.slots seat.id
          c.args.thread c.args.part seat.me at.shape
          (carries_again g.T.Merging cell.table.shared.key c.args.thread c.args.part
          c.args.seat.now.me seat.me c.in-Err.ensures.refused.1 c.requires.carries),
    )

pub returns-in-Ok-clause-seat : goal.returns-in-Ok-clause-seat
returns-in-Ok-clause-seat g c =
    let given = c.store.ensures.2 _ c.in-Ok.ensures.filled.turn_is in
    record {
      table = c.store.ensures.0 ∙ c.pour.ensures.seat.table;
      shape = ap (λ m. m.0.shape) given ∙ c.pour.ensures.seat.shape;
    }

pub returns-in-Ok-clause-given : goal.returns-in-Ok-clause-given
returns-in-Ok-clause-given g c = c.store.ensures.2 _ c.in-Ok.ensures.filled.turn_is
    ∙ ap (λ v. (giving c.args.part v, [])) c.pour.ensures.same
