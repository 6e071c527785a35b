-- Values as numbers, and numbers as values.
use Rattle.std.specs.Prelude.{Option, Some, None, pos, option_and_then, if◌then◌else◌}
use Rattle.cal_agg.specs.Numbers.{is_fixed}
use Rattle.cal_agg.specs.declared.num.Num.{Num}
use Rattle.cal_agg.specs.declared.num.Num.TheVariants.{Whole, Fixed}
use Rattle.cal_value.specs.declared.variant.Variant as variants
use Rattle.cal_value.specs.declared.variant.Variant.TheVariants as variant

-- the number that a value is: whole of an Int or a Uint, fixed of a Fixed
abbrev pub number_in : variants.Variant → Option Num
number_in (variant.Int n) = Some (Whole n)
number_in (variant.Uint n) = Some (Whole (pos n))
number_in (variant.Fixed n) = Some (Fixed n)
number_in _ = None

-- the whole number that a value is
abbrev pub whole_in : variants.Variant → Option Num
whole_in v = option_and_then (λ n. if is_fixed n then None else Some n) (number_in v)

-- a result as a value: a whole number as an Int
abbrev pub value_of_number : Num → variants.Variant
value_of_number (Whole n) = variant.Int n
value_of_number (Fixed n) = variant.Fixed n
