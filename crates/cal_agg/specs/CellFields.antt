-- A cell's fields: the figures of its whole numbers, and of its fixed ones apart from them.
use Rattle.std.specs.Prelude.{◌≡◌, ℤ, Option, None, Some, refl}
use Rattle.std.specs.Option.{ForSome}
use Rattle.cal_agg.specs.declared.cell.Cell.TheInside.{Inside}
use Rattle.cal_agg.specs.declared.figures.Figures.{Figures}
use Rattle.cal_agg.specs.Figures.{greatest_in, least_in, total_in}
use Rattle.cal_agg.specs.Numbers.{IsWithin}
use Rattle.cal_agg.specs.Parts.{CellValue}

-- the cell that they are
abbrev pub cell_value : Inside → CellValue
cell_value cell = record {
  sum = record { whole = total_in cell.wholes; fixed = total_in cell.fixed };
  least = record { whole = least_in cell.wholes; fixed = least_in cell.fixed };
  greatest = record { whole = greatest_in cell.wholes; fixed = greatest_in cell.fixed };
}

-- the figures of whole numbers: the sum is within its limits, and an end is one of the numbers
pub record IsOfWholes (figures : Figures) : Type 0 where
  pub total : IsWithin 126 figures.total
  pub least : IsWithin 86 figures.least
  pub greatest : IsWithin 86 figures.greatest

-- those of fixed ones
abbrev pub IsOfFixed : Figures → Type 0
IsOfFixed figures = IsWithin 126 figures.total

-- what is true of each cell
pub record AreSmall (cell : Inside) : Type 0 where
  pub wholes : ForSome cell.wholes IsOfWholes
  pub fixed : ForSome cell.fixed IsOfFixed

-- the figures that are there
abbrev pub figures_from : Option ℤ → Option ℤ → Option ℤ → Option Figures
figures_from None least greatest = None
figures_from (Some total) None greatest = None
figures_from (Some total) (Some least) None = None
figures_from (Some total) (Some least) (Some greatest) =
    Some (record { total = total; least = least; greatest = greatest })

-- the fields of a cell
abbrev pub fields_of : CellValue → Inside
fields_of cell = record {
  wholes = figures_from cell.sum.whole cell.least.whole cell.greatest.whole;
  fixed = figures_from cell.sum.fixed cell.least.fixed cell.greatest.fixed;
}

figures_from-parts : (f : Option Figures)
    → figures_from (total_in f) (least_in f) (greatest_in f) ≡ f
figures_from-parts None = refl
figures_from-parts (Some f) = refl

-- a cell gives its fields back
pub fields_of-cell_value : (cell : Inside) → fields_of (cell_value cell) ≡ cell
fields_of-cell_value cell = λ i. record {
  wholes = figures_from-parts cell.wholes i;
  fixed = figures_from-parts cell.fixed i;
}
