-- What a definition of LET gives on a record (CalQL; limits and rounding are Giltmoth's).
use Rattle.std.specs.Prelude.{ℕ, ℤ, pos, ◌*ℤ◌, ◌≤ℤ◌, ◌^◌, int_div, nat_le, unsigned_abs}
use Rattle.std.specs.Prelude.{List, ◌∷◌, map, slice_get, Option, Some, None, option_map}
use Rattle.std.specs.Prelude.{option_and_then, if◌then◌else◌}
use Rattle.std.specs.Int.{int_div_euclid}
use Rattle.std.specs.List.{filter_map}
use Rattle.std.specs.Ordering.{int_eq}
use Rattle.cal_agg.specs.Numbers.{measure, nano_units, number}
use Rattle.cal_agg.specs.Results.{sum_of}
use Rattle.cal_agg.specs.declared.num.Num.{Num}
use Rattle.cal_agg.specs.declared.num.Num.TheVariants.{Whole, Fixed}
use Rattle.cal_ql.specs.Lets.{least_number}
use Rattle.cal_ql.specs.declared.names.Op as ops
use Rattle.cal_ql.specs.declared.names.Op.TheVariants as op
use Rattle.cal_ql.specs.declared.query.Let.{Let}
use Rattle.cal_value.specs.declared.record.Rec.{Rec}
use Rattle.cal_value.specs.declared.variant.Variant.{Variant}
use Rattle.cal_filter.specs.Named.{last_entry, last_number}
use Rattle.cal_filter.specs.Numbers.{value_of_number}

-- a number that an operator may take
pub record IsFactor (o : ops.Op) (n : ℤ) : Type 0 where
  pub least : least_number o ≤ℤ n
  pub most : n ≤ℤ pos 2147483647

-- the greatest multiple of a step that isn't above a number
abbrev pub floor_to : ℤ → ℤ → ℤ
floor_to step z = step *ℤ int_div_euclid z step

-- truncate(A,n): the multiples are those of n wholes
abbrev pub truncated : ℤ → Num → Num
truncated n (Whole a) = Whole (floor_to n a)
truncated n (Fixed a) = Fixed (floor_to (nano_units n) a)

-- scale(A,n)
abbrev pub scaled : ℤ → Num → Num
scaled n (Whole a) = Whole (a *ℤ n)
scaled n (Fixed a) = Fixed (a *ℤ n)

-- a quotient as a whole number, rounded towards 0; nothing where the divisor is 0
abbrev pub quotient : ℤ → ℤ → Option Num
quotient a b = if int_eq b (pos 0) then None else Some (Whole (int_div a b))

-- the same of measures; nothing where the first one is too large
abbrev pub quotient_of_measures : ℤ → ℤ → Option Num
quotient_of_measures a b = if nat_le (unsigned_abs a) (2 ^ 126) then quotient a b else None

-- ratio(A,B,n): A times n over B, of two whole numbers, and else of the measures
abbrev pub ratio_of : ℤ → Num → Num → Option Num
ratio_of n (Whole a) (Whole b) = quotient (a *ℤ n) b
ratio_of n a b = quotient_of_measures (measure a *ℤ n) (measure b)

-- sum(A,B,..): what the kernel `sum` gives of those numbers that are there
abbrev pub total_of : List (Option Num) → Option Num
total_of numbers = sum_of (filter_map (λ n. n) numbers)

-- What an operator gives of the last numbers of its names. One that is missing gives nothing, but
-- in a sum.
abbrev pub operation : ops.Op → ℤ → List (Option Num) → Option Num
operation op.Truncate n (Some a ∷ _) = Some (truncated n a)
operation op.Scale n (Some a ∷ _) = Some (scaled n a)
operation op.Ratio n (Some a ∷ Some b ∷ _) = ratio_of n a b
operation op.Sum n numbers = total_of numbers
operation _ n _ = None

-- a result whose magnitude is above 2^86, that of a Fixed in nano-units, is no value
abbrev pub limited : Num → Option Num
limited n = if nat_le (unsigned_abs (number n)) (2 ^ 86) then Some n else None

-- first(A,B,..): the value of the last entry of the first name that has one
abbrev pub first_value : List (List ℕ) → Rec → Option Variant
first_value names r =
    option_map (λ e. e.value) (slice_get (filter_map (λ name. last_entry name r) names) 0)

-- the number that an operator over numbers gives of these names on a record
abbrev pub let_number : ops.Op → ℤ → List (List ℕ) → Rec → Option Num
let_number o n names r =
    option_and_then limited (operation o n (map (λ name. last_number name r) names))

-- the value that an operator gives
abbrev pub value_by : ops.Op → ℤ → List (List ℕ) → Rec → Option Variant
value_by op.First n names r = first_value names r
value_by o n names r = option_map value_of_number (let_number o n names r)

-- the value of a definition on a record, if it has one
abbrev pub let_value : Let → Rec → Option Variant
let_value l r = value_by l.op l.n l.args r
