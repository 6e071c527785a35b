-- How large the sums of a row are that so many snapshots make, each with numbers of 64 bits.
use Rattle.std.specs.Prelude.{◌≡◌, ℕ, ◌+◌, ◌*◌, ◌^◌, ◌≤◌, pos, ◌+ℤ◌, List, [], ◌∷◌}
use Rattle.std.specs.Prelude.{All}
use Rattle.std.specs.List.{AllByRecursion}
use Rattle.std.proofs.Common.{arith, subst, sym}
use Rattle.std.proofs.lemmas.List.Elements.{All-from_recursion, recursion_from_All}
use Rattle.cal_agg.specs.declared.cell.Cell.{Cell}
use Rattle.cal_agg.specs.declared.num.Num.{Num}
use Rattle.cal_agg.specs.declared.num.Num.TheVariants.{Whole, Fixed}
use Rattle.cal_agg.specs.declared.row.AggRow.{AggRow}
use Rattle.cal_agg.specs.Limits.{magnitude, magnitude-both, magnitude_within}
use Rattle.cal_agg.specs.Numbers.{IsWithin, number}
use Rattle.cal_agg.specs.Rows.{CellHasRoom, RowHasRoom, cell_over, merged_cell, merged_cells}
use Rattle.cal_agg.specs.Rows.{merged_row}

-- a number whose magnitude is at most 2^64, as each of a run is
abbrev pub IsOf64 : Num → Type 0
IsOf64 n = IsWithin 64 (number n)

-- neither part of a cell's sum is above that of so many numbers of 64 bits
pub record CellIsWithin (many : ℕ) (cell : Cell) : Type 0 where
  pub whole : magnitude cell.sum.whole ≤ many * 2 ^ 64
  pub fixed : magnitude cell.sum.fixed ≤ many * 2 ^ 64

-- a row of so many snapshots, of which each gave a cell at most one number of 64 bits
pub record RowIsWithin (many : ℕ) (row : AggRow) : Type 0 where
  pub count : row.count ≡ pos many
  pub cells : All (CellIsWithin many) row.cells

-- no number
pub CellIsWithin-none : (many : ℕ) → CellIsWithin many (cell_over [])
CellIsWithin-none many = record { whole = omega arith; fixed = omega arith }

-- one number
pub CellIsWithin-one : (n : Num) → IsOf64 n → CellIsWithin 1 (cell_over (n ∷ []))
CellIsWithin-one (Whole n) h = record { whole = omega arith; fixed = omega arith }
CellIsWithin-one (Fixed n) h = record { whole = omega arith; fixed = omega arith }

-- the numbers of two cells stay within the bound of both together
pub CellIsWithin-merged : (m n : ℕ) (c d : Cell) → CellIsWithin m c → CellIsWithin n d
    → CellIsWithin (m + n) (merged_cell c d)
CellIsWithin-merged m n c d h k =
    let whole = magnitude-both c.sum.whole d.sum.whole in
    let fixed = magnitude-both c.sum.fixed d.sum.fixed in
    let one = h.whole in
    let two = h.fixed in
    let three = k.whole in
    let four = k.fixed in
    record { whole = omega arith; fixed = omega arith }

-- 2^62 of them are within the limits of a sum
pub CellIsWithin-room : (many : ℕ) (c : Cell) → many ≤ 2 ^ 62 → CellIsWithin many c → CellHasRoom c
CellIsWithin-room many c few h =
    let whole = h.whole in
    let fixed = h.fixed in
    record {
      whole = magnitude_within 126 c.sum.whole (omega arith);
      fixed = magnitude_within 126 c.sum.fixed (omega arith);
    }

cells_within : (m n : ℕ) (cs ds : List Cell) → AllByRecursion (CellIsWithin m) cs
    → AllByRecursion (CellIsWithin n) ds → AllByRecursion (CellIsWithin (m + n)) (merged_cells cs ds)
cells_within m n [] ds h k = tt
cells_within m n (c ∷ cs) [] h k = tt
cells_within m n (c ∷ cs) (d ∷ ds) h k =
    (CellIsWithin-merged m n c d h.0 k.0, cells_within m n cs ds h.1 k.1)

-- so it is for the cells of two rows
pub CellsAreWithin-merged : (m n : ℕ) (cs ds : List Cell) → All (CellIsWithin m) cs
    → All (CellIsWithin n) ds → All (CellIsWithin (m + n)) (merged_cells cs ds)
CellsAreWithin-merged m n cs ds h k =
    All-from_recursion (CellIsWithin (m + n)) (merged_cells cs ds)
    (cells_within m n cs ds (recursion_from_All (CellIsWithin m) cs h)
    (recursion_from_All (CellIsWithin n) ds k))

-- and for the rows
pub RowIsWithin-merged : (m n : ℕ) (a b : AggRow) → RowIsWithin m a → RowIsWithin n b
    → RowIsWithin (m + n) (merged_row a b)
RowIsWithin-merged m n a b h k = record {
  count = λ i. h.count i +ℤ k.count i;
  cells = CellsAreWithin-merged m n a.cells b.cells h.cells k.cells;
}

-- a row of at most 2^62 snapshots is within its limits
pub RowIsWithin-room : (many : ℕ) (row : AggRow) → many ≤ 2 ^ 62 → RowIsWithin many row
    → RowHasRoom row
RowIsWithin-room many row few h = record {
  count = subst (IsWithin 126) (sym h.count) (omega arith);
  cells = λ k d l. CellIsWithin-room many _ few (h.cells k d l);
}
