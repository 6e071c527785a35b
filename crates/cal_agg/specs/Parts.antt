-- What a kernel holds: the whole numbers taken together, and the fixed ones apart from them.
use Rattle.std.specs.Prelude.{ℕ, ℤ, ◌+ℤ◌, Option, None, Some, List, [], ◌∷◌, ⊤}
use Rattle.std.specs.Int.{int_min, int_max}
use Rattle.std.specs.Option.{ForSome}
use Rattle.cal_agg.specs.declared.num.Num.{Num}
use Rattle.cal_agg.specs.declared.num.Num.TheVariants.{Whole, Fixed}
use Rattle.cal_agg.specs.Numbers.{IsWithin}
use Rattle.cal_agg.specs.Results.{both}

pub record Parts : Type 0 where
  pub whole : Option ℤ
  pub fixed : Option ℤ

-- what a cell keeps of numbers
pub record CellValue : Type 0 where
  pub sum : Parts
  pub least : Parts
  pub greatest : Parts

-- nothing was added
abbrev pub no_parts : Parts
no_parts = record { whole = None; fixed = None }

-- one number was added
abbrev pub part_of : Num → Parts
part_of (Whole n) = record { whole = Some n; fixed = None }
part_of (Fixed n) = record { whole = None; fixed = Some n }

-- two kernels merged: their whole parts together, and their fixed parts together
abbrev pub merged_by : (ℤ → ℤ → ℤ) → Parts → Parts → Parts
merged_by join one other = record {
  whole = both join one.whole other.whole;
  fixed = both join one.fixed other.fixed;
}

-- the numbers of a list added
abbrev pub parts_by : (ℤ → ℤ → ℤ) → List Num → Parts
parts_by join [] = no_parts
parts_by join (n ∷ ns) = merged_by join (part_of n) (parts_by join ns)

-- each part has a magnitude of at most a power of two
pub record AreWithin (bits : ℕ) (parts : Parts) : Type 0 where
  pub whole : ForSome parts.whole (IsWithin bits)
  pub fixed : ForSome parts.fixed (IsWithin bits)

-- what `Sum`, `Least` and `Greatest` hold of a list of numbers
abbrev pub sum_over : List Num → Parts
sum_over ns = parts_by ◌+ℤ◌ ns

abbrev pub least_over : List Num → Parts
least_over ns = parts_by int_min ns

abbrev pub greatest_over : List Num → Parts
greatest_over ns = parts_by int_max ns

-- a kernel that takes ends has no limit
abbrev pub IsAny : Parts → Type 0
IsAny parts = ⊤
