use Rattle.std.proofs.Common.{ap, ◌∙◌, sym, subst, ◌∷◌, get_or, List, ℕ}
use Rattle.atomic_table.specs.Table.{rest}
use Rattle.cal_book.specs.declared.content.Content.{Content}
use Rattle.cal_book.specs.Contents.{TakesIn}
use Rattle.cal_book.proofs.cell.FlushCell.pour.Goals as goal

pub slot_mut-content-requires : goal.slot_mut-content-requires
slot_mut-content-requires g c = let me = c.requires.carries in (
  c.requires.seat.table,
  (me.copy, me.out ∙ ap (λ l. (0, me.copy) ∷ rest l) (sym me.out)),
)

pub returns-in-Ok-clause-filled : goal.returns-in-Ok-clause-filled
returns-in-Ok-clause-filled g c =
    let me = c.requires.carries in
    let lent = c.slot_mut-content.result.now in
    let same = ap (λ (l : List (ℕ × Content g.row.T.Denot)). (get_or l 0 (0, lent)).1)
    (sym c.slot_mut-content.ensures.value ∙ me.out) in
    record {
      thread_is = me.thread_is;
      copy = me.copy;
      turn_is = me.turn_is;
      content = c.take_in.new.content;
      out = ap (λ l. (0, c.take_in.new.content) ∷ rest l) me.out;
      may = me.may;
      taken = subst (λ x. TakesIn g.T.Merging c.args.thread c.args.part x c.take_in.new.content) same
          c.in-Ok.ensures.taken;
    }
