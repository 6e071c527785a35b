use Rattle.std.proofs.Common.{[], ◌∷◌, sym, subst}
use Rattle.std.specs.List.{All}
use Rattle.cal_agg.specs.RowLimits.{IsOf64}
use Rattle.cal_agg.specs.Rows.{CellHasRoom, cell_over, merged_cell}
use Rattle.cal_agg.specs.declared.cell.Cell.{Cell}
use Rattle.cal_table.specs.Snapshots.{HasNumberOf64}
use Rattle.cal_table.proofs.Lasts.{has_cell_room, last_number-of64, may_add}
use Rattle.cal_table.proofs.draft.cell_of.Goals as goal

pub add-requires-clause-small : goal.add-requires-clause-small
add-requires-clause-small c =
    may_add c.in-Some.n (last_number-of64 c.args.flags.now c.deref.result.now (subst (All HasNumberOf64) (sym c.deref.ensures.value) c.requires) c.in-Some.n (sym c.in-Some.ensures))

pub add-requires-clause-room : goal.add-requires-clause-room
add-requires-clause-room c =
    let small : IsOf64 c.in-Some.n = last_number-of64 c.args.flags.now c.deref.result.now (subst (All HasNumberOf64) (sym c.deref.ensures.value) c.requires) c.in-Some.n (sym c.in-Some.ensures) in
    subst (λ (cell : Cell). CellHasRoom (merged_cell cell (cell_over (c.in-Some.n ∷ [])))) (sym c.start-cell.ensures) (has_cell_room c.in-Some.n small)
