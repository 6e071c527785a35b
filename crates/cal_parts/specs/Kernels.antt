-- The kernels of a query over the records of a group (CalQL).
use Rattle.std.specs.Prelude.{ℕ, pos, Bool, true, ◌&&◌, List, [], ◌∷◌, codes, filter}
use Rattle.std.specs.Prelude.{Option, None, Some, option_and_then, unwrap_or, if◌then◌else◌}
use Rattle.std.specs.List.{filter_map, flat_map, last_or}
use Rattle.cal_agg.specs.declared.num.Num.{Num}
use Rattle.cal_agg.specs.declared.num.Num.TheVariants.{Whole}
use Rattle.cal_agg.specs.Numbers.{is_fixed}
use Rattle.cal_agg.specs.Results.{average_of, count_of, greatest_of, least_of}
use Rattle.cal_agg.specs.Results.{percent_total_of, sum_of}
use Rattle.cal_filter.specs.Named.{is_named, last_number}
use Rattle.cal_filter.specs.Numbers.{number_in}
use Rattle.cal_ql.specs.Kernels.{result_name}
use Rattle.cal_ql.specs.declared.names.KernelName as kernels
use Rattle.cal_ql.specs.declared.names.KernelName.TheVariants as kernel
use Rattle.cal_ql.specs.declared.query.Agg.{Agg}
use Rattle.cal_value.specs.Flat.{flat}
use Rattle.cal_value.specs.declared.attribute.Entry.{Entry}
use Rattle.cal_value.specs.declared.record.Rec.{Rec}
use Rattle.cal_value.specs.declared.variant.Variant.{Variant}

-- the number that a value is, where whole ones alone are sought if that is said
abbrev pub number_sought : Bool → Variant → Option Num
number_sought whole v =
    option_and_then (λ n. if whole && is_fixed n then None else Some n) (number_in v)

-- the numbers that entries of a name have
abbrev pub numbers_sought : Bool → List ℕ → List Entry → List Num
numbers_sought whole name entries =
    filter_map (λ e. number_sought whole e.value) (filter (is_named name) entries)

-- the first of two numbers that is there
abbrev pub or_else : Option Num → Option Num → Option Num
or_else None other = other
or_else (Some n) other = Some n

-- the last whole number of a name
abbrev pub last_whole : List ℕ → Rec → Option Num
last_whole name r = last_or None (numbers_sought true name (flat r))

-- how much a record counts: its last whole number named `count`, or 1
abbrev pub weight : Rec → Num
weight r = unwrap_or (last_whole (codes "count") r) (Whole (pos 1))

-- The names whose last numbers contribute to a kernel over A: A itself, and the name that the
-- result of an earlier query has.
abbrev pub contributing : kernels.KernelName → List ℕ → List (List ℕ)
contributing kernel.Avg attr = attr ∷ []
contributing kernel.Min attr = attr ∷ result_name kernel.Min attr ∷ []
contributing kernel.Max attr = attr ∷ result_name kernel.Max attr ∷ []
contributing _ attr = attr ∷ result_name kernel.Sum attr ∷ []

-- what a record contributes by names: to `count` its weight, and to another kernel its last
-- numbers of the names, as far as it has them
abbrev pub contributions_by : kernels.KernelName → List (List ℕ) → Rec → List Num
contributions_by kernel.Count names r = weight r ∷ []
contributions_by k names r = filter_map (λ name. last_number name r) names

-- what a record contributes to a kernel
abbrev pub contributions : kernels.KernelName → List ℕ → Rec → List Num
contributions k attr r = contributions_by k (contributing k attr) r

-- what records contribute to a kernel of a query
abbrev pub contributed : Agg → List Rec → List Num
contributed agg rs = flat_map (contributions agg.kernel agg.attr) rs

-- What a kernel comes to, of what a group's records contributed, what all kept records did, and
-- what the records of the groups below did.
abbrev pub result_of : kernels.KernelName → List Num → List Num → List Num → Option Num
result_of kernel.Count own all below = Some (Whole (count_of own))
result_of kernel.Sum own all below = sum_of own
result_of kernel.Min own all below = least_of own
result_of kernel.Max own all below = greatest_of own
result_of kernel.Avg own all below = average_of own
result_of kernel.Percent own all below = percent_total_of own all
result_of kernel.Inclusive own all below = sum_of below
