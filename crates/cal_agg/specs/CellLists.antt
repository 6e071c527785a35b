-- The cells of a row, however they are kept.
use Rattle.std.specs.Prelude.{List, [], ◌∷◌}
use Rattle.cal_agg.specs.declared.cell.Cell.{Cell}
use Rattle.cal_agg.specs.declared.cells.Held.{Held}
use Rattle.cal_agg.specs.declared.cells.Held.TheVariants as held

-- the cells, in order
abbrev pub cells_in : Held → List Cell
cells_in held.None = []
cells_in (held.One cell) = cell ∷ []
cells_in (held.Many cells) = cells.items
