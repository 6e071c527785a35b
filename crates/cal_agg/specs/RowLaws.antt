-- Cells and rows may be merged in any order, also where one list of cells is longer.
use Rattle.std.specs.Prelude.{◌≡◌, List, [], ◌∷◌, refl}
use Rattle.std.proofs.Math.IntN.{+ℤ_comm, +ℤ_assoc}
use Rattle.cal_agg.specs.declared.cell.Cell.{Cell}
use Rattle.cal_agg.specs.declared.row.AggRow.{AggRow}
use Rattle.cal_agg.specs.Joins.{sum_joins, least_joins, greatest_joins, merged_comm, merged_assoc}
use Rattle.cal_agg.specs.Rows.{merged_cell, merged_cells, merged_row}

pub merged_cell-comm : (c d : Cell) → merged_cell c d ≡ merged_cell d c
merged_cell-comm c d = λ i. record {
  sum = merged_comm sum_joins c.sum d.sum i;
  least = merged_comm least_joins c.least d.least i;
  greatest = merged_comm greatest_joins c.greatest d.greatest i;
}

pub merged_cell-assoc : (c d e : Cell)
    → merged_cell (merged_cell c d) e ≡ merged_cell c (merged_cell d e)
merged_cell-assoc c d e = λ i. record {
  sum = merged_assoc sum_joins c.sum d.sum e.sum i;
  least = merged_assoc least_joins c.least d.least e.least i;
  greatest = merged_assoc greatest_joins c.greatest d.greatest e.greatest i;
}

pub merged_cells-comm : (cs ds : List Cell) → merged_cells cs ds ≡ merged_cells ds cs
merged_cells-comm [] [] = refl
merged_cells-comm [] (d ∷ ds) = refl
merged_cells-comm (c ∷ cs) [] = refl
merged_cells-comm (c ∷ cs) (d ∷ ds) = λ i. merged_cell-comm c d i ∷ merged_cells-comm cs ds i

pub merged_cells-assoc : (cs ds es : List Cell)
    → merged_cells (merged_cells cs ds) es ≡ merged_cells cs (merged_cells ds es)
merged_cells-assoc [] ds es = refl
merged_cells-assoc (c ∷ cs) [] es = refl
merged_cells-assoc (c ∷ cs) (d ∷ ds) [] = refl
merged_cells-assoc (c ∷ cs) (d ∷ ds) (e ∷ es) =
    λ i. merged_cell-assoc c d e i ∷ merged_cells-assoc cs ds es i

pub merged_row-comm : (a b : AggRow) → merged_row a b ≡ merged_row b a
merged_row-comm a b = λ i. record {
  count = +ℤ_comm a.count b.count i;
  cells = merged_cells-comm a.cells b.cells i;
}

pub merged_row-assoc : (a b c : AggRow)
    → merged_row (merged_row a b) c ≡ merged_row a (merged_row b c)
merged_row-assoc a b c = λ i. record {
  count = +ℤ_assoc a.count b.count c.count i;
  cells = merged_cells-assoc a.cells b.cells c.cells i;
}
