use Rattle.std.proofs.Common.{◌≡◌, ◌∙◌, All, ap, subst, sym}
use Rattle.cal_agg.specs.CellLists.{cells_in}
use Rattle.cal_agg.specs.Rows.{CellHasRoom, merged_cells}
use Rattle.cal_agg.proofs.cells.Cells.merge.Goals as goal

-- the cells are those of the list that holds them
pub merge_cells-requires-in-Many-clause-room : goal.merge_cells-requires-in-Many-clause-room
merge_cells-requires-in-Many-clause-room c =
    let same : c.args.self.now ≡ c.in-Many.cells.items =
    sym c.self.view_is ∙ ap cells_in c.in-Many.is in
    rw (c.as_mut_slice.ensures.value, c.as_slice-in-Many.ensures)
    (subst (λ cells. All CellHasRoom (merged_cells cells c.args.others.now)) same c.requires.room)
