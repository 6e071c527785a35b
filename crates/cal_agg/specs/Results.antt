-- The kernels of a query over a list of numbers (CalQL; kinds, limits and rounding are ours).
use Rattle.std.specs.Prelude.{ℕ, ◌==◌, ◌^◌, nat_le, ℤ, pos, ◌+ℤ◌, ◌*ℤ◌, int_div, unsigned_abs}
use Rattle.std.specs.Prelude.{Bool, ◌&&◌, if◌then◌else◌, List, [], ◌∷◌, length, map}
use Rattle.std.specs.Prelude.{Option, None, Some, option_map, option_and_then}
use Rattle.std.specs.Int.{int_min, int_max}
use Rattle.std.specs.List.{flat_map}
use Rattle.cal_agg.specs.declared.num.Num.{Num}
use Rattle.cal_agg.specs.declared.num.Num.TheVariants.{Whole, Fixed}
use Rattle.cal_agg.specs.Numbers.{nano_units, number, measure, some_fixed}

-- two numbers taken together, of which either may be missing
abbrev pub both : (ℤ → ℤ → ℤ) → Option ℤ → Option ℤ → Option ℤ
both join None other = other
both join (Some x) None = Some x
both join (Some x) (Some y) = Some (join x y)

-- all numbers of a list taken together; nothing where there is none
abbrev pub together : (ℤ → ℤ → ℤ) → List ℤ → Option ℤ
together join [] = None
together join (x ∷ xs) = both join (Some x) (together join xs)

-- A result is fixed where some contribution is Fixed, and then it is found on the measures.
-- Another result is whole, and is found on the numbers.
abbrev pub found : (List ℤ → Option ℤ) → List Num → Option Num
found find ns =
    if some_fixed ns then option_map Fixed (find (map measure ns))
    else option_map Whole (find (map number ns))

-- whether a magnitude is at most 2^118, as that of a fixed result must be
abbrev pub is_kept : ℤ → Bool
is_kept z = nat_le (unsigned_abs z) (2 ^ 118)

-- a fixed sum above that is absent
abbrev pub kept : Num → Option Num
kept (Whole n) = Some (Whole n)
kept (Fixed n) = if is_kept n then Some (Fixed n) else None

-- `sum`
abbrev pub sum_of : List Num → Option Num
sum_of ns = option_and_then kept (found (together ◌+ℤ◌) ns)

-- `min`
abbrev pub least_of : List Num → Option Num
least_of ns = found (together int_min) ns

-- `max`
abbrev pub greatest_of : List Num → Option Num
greatest_of ns = found (together int_max) ns

-- `count`: the sum of whole numbers, 0 of none
abbrev pub count_of : List Num → ℤ
count_of [] = pos 0
count_of (n ∷ ns) = number n +ℤ count_of ns

-- a sum divided by how many there are, rounded towards 0
abbrev pub divided : ℕ → Num → Num
divided many (Whole n) = Whole (int_div n (pos many))
divided many (Fixed n) = Fixed (int_div n (pos many))

-- `avg`: the sum divided by the number of contributions
abbrev pub average_of : List Num → Option Num
average_of ns = option_map (divided (length ns)) (sum_of ns)

-- 100 * s / t, rounded towards 0; absent where t is 0
abbrev pub percent : ℤ → ℤ → Option Num
percent s t = if unsigned_abs t == 0 then None else Some (Whole (int_div (pos 100 *ℤ s) t))

-- the same of two measures; absent where one is above 2^118 in magnitude
abbrev pub percent_of_measures : ℤ → ℤ → Option Num
percent_of_measures s t = if is_kept s && is_kept t then percent s t else None

-- the percentage that s is of t, on the measures where either is fixed
abbrev pub percent_of : Num → Num → Option Num
percent_of (Whole s) (Whole t) = percent s t
percent_of (Whole s) (Fixed t) = percent_of_measures (nano_units s) t
percent_of (Fixed s) t = percent_of_measures s (measure t)

-- `percent_total`: a group's sum as a percentage of the sum of all groups' contributions
abbrev pub percent_total_of : List Num → List Num → Option Num
percent_total_of group all =
    option_and_then (λ s. option_and_then (percent_of s) (sum_of all)) (sum_of group)

-- `inclusive_sum`: the sum of several groups' contributions
abbrev pub inclusive_sum_of : List (List Num) → Option Num
inclusive_sum_of groups = sum_of (flat_map (λ ns. ns) groups)
