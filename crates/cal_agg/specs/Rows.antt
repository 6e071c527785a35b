-- What a table's row keeps: a count, and for each value attribute a sum and two ends.
use Rattle.std.specs.Prelude.{◌≡◌, ℕ, pos, ◌+ℤ◌, ◌++◌, List, [], ◌∷◌, map, replicate, All, refl}
use Rattle.std.specs.Int.{int_min, int_max}
use Rattle.std.proofs.Common.{sym}
use Rattle.cal_agg.specs.declared.num.Num.{Num}
use Rattle.cal_agg.specs.declared.cell.Cell.{Cell}
use Rattle.cal_agg.specs.declared.row.AggRow.{AggRow}
use Rattle.cal_agg.specs.Numbers.{IsWithin}
use Rattle.cal_agg.specs.Parts.{AreWithin, merged_by, sum_over, least_over, greatest_over}
use Rattle.cal_agg.specs.Joins.{sum_joins, least_joins, greatest_joins, parts_by-append}

-- a cell to which the numbers of a list were added
abbrev pub cell_over : List Num → Cell
cell_over ns = record { sum = sum_over ns; least = least_over ns; greatest = greatest_over ns }

-- two cells merged
abbrev pub merged_cell : Cell → Cell → Cell
merged_cell one other = record {
  sum = merged_by ◌+ℤ◌ one.sum other.sum;
  least = merged_by int_min one.least other.least;
  greatest = merged_by int_max one.greatest other.greatest;
}

-- the sums of a cell are within their limits
abbrev pub CellHasRoom : Cell → Type 0
CellHasRoom cell = AreWithin 126 cell.sum

-- lists of cells merged place by place
abbrev pub merged_cells : List Cell → List Cell → List Cell
merged_cells [] others = []
merged_cells (cell ∷ cells) [] = []
merged_cells (cell ∷ cells) (other ∷ others) = merged_cell cell other ∷ merged_cells cells others

-- a row with so many cells, to which nothing was added
abbrev pub empty_row : ℕ → AggRow
empty_row cells = record { count = pos 0; cells = replicate cells (cell_over []) }

-- two rows merged
abbrev pub merged_row : AggRow → AggRow → AggRow
merged_row one other = record {
  count = one.count +ℤ other.count;
  cells = merged_cells one.cells other.cells;
}

-- the sums of a row are within their limits
pub record RowHasRoom (row : AggRow) : Type 0 where
  pub count : IsWithin 126 row.count
  pub cells : All CellHasRoom row.cells

-- adding a concatenation to a cell is merging
pub cell_over-append : (ns ms : List Num)
    → cell_over (ns ++ ms) ≡ merged_cell (cell_over ns) (cell_over ms)
cell_over-append ns ms = λ i. record {
  sum = parts_by-append sum_joins ns ms i;
  least = parts_by-append least_joins ns ms i;
  greatest = parts_by-append greatest_joins ns ms i;
}

-- so it is for the cells of a row
pub merged_cells-map : {A : Type 0} (f g : A → List Num) (xs : List A)
    → merged_cells (map (λ x. cell_over (f x)) xs) (map (λ x. cell_over (g x)) xs)
    ≡ map (λ x. cell_over (f x ++ g x)) xs
merged_cells-map f g [] = refl
merged_cells-map f g (x ∷ xs) =
    λ i. sym (cell_over-append (f x) (g x)) i ∷ merged_cells-map f g xs i
