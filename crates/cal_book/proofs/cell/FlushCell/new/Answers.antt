use Rattle.std.proofs.Common.{sym, subst, ◌∷◌, [], List}
use Rattle.atomic_table.specs.Table.{opening}
use Rattle.cal_book.specs.Rule.{Kept}
use Rattle.cal_book.specs.Views.{first_seat}
use Rattle.cal_book.specs.declared.content.Content.{Content}
use Rattle.cal_book.proofs.Seats.{opens}
use Rattle.cal_book.proofs.cell.FlushCell.new.Goals as goal

pub new-requires : goal.new-requires
new-requires g c =
    let shape = c.args.shape.now in
    subst (λ (xs : List (Content g.row.T.Denot)). Kept g.T.Merging shape
    (opening (0 ∷ []) xs (first_seat shape)))
    (sym c.in_ok-slots.ensures)
    (opens g.T.Merging shape _ c.in_ok-table.ensures c.in_ok-numbers.ensures)
