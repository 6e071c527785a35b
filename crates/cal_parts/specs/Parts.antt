-- What is kept of the numbers that contributed to a kernel, so that groups can be added up.
use Rattle.std.specs.Prelude.{ℕ, ◌+◌, ◌*◌, ◌^◌, ◌≤◌, ℤ, ◌+ℤ◌, unsigned_abs, Bool, true, false}
use Rattle.std.specs.Prelude.{List, [], ◌∷◌}
use Rattle.std.specs.Prelude.{length, map, slice_get, drop, Option, None, Some, ⊤}
use Rattle.std.specs.Int.{int_min, int_max}
use Rattle.std.specs.Option.{ForSome}
use Rattle.cal_agg.specs.Parts as gathered
use Rattle.cal_agg.specs.Numbers.{IsWithin}
use Rattle.cal_agg.specs.declared.num.Num.{Num}
use Rattle.cal_ql.specs.declared.names.KernelName as kernels
use Rattle.cal_ql.specs.declared.names.KernelName.TheVariants as kernel
use Rattle.cal_ql.specs.declared.query.Agg.{Agg}
use Rattle.cal_value.specs.declared.record.Rec.{Rec}
use Rattle.cal_parts.specs.declared.part.Held as holds
use Rattle.cal_parts.specs.declared.part.Held.TheVariants as held
use Rattle.cal_parts.specs.declared.part.Way as ways
use Rattle.cal_parts.specs.declared.part.Way.TheVariants as way
use Rattle.cal_parts.specs.Kernels.{contributed}

-- how many numbers contributed, and what is held of them
pub record Gathered : Type 0 where
  pub many : ℕ
  pub held : holds.Held

-- An end is held for `min` and `max`, and a sum for each other kernel.
abbrev pub held_over : kernels.KernelName → List Num → holds.Held
held_over kernel.Min ns = held.Least (gathered.least_over ns)
held_over kernel.Max ns = held.Greatest (gathered.greatest_over ns)
held_over _ ns = held.Sum (gathered.sum_over ns)

-- how a kernel takes numbers together
abbrev pub way_of : kernels.KernelName → ways.Way
way_of kernel.Min = way.Least
way_of kernel.Max = way.Greatest
way_of _ = way.Sum

-- two numbers taken together
abbrev pub joined_by : ways.Way → ℤ → ℤ → ℤ
joined_by way.Sum = ◌+ℤ◌
joined_by way.Least = int_min
joined_by way.Greatest = int_max

-- a number that is there, or isn't
abbrev pub given : Bool → ℤ → Option ℤ
given true n = Some n
given false n = None

-- what is held where numbers are taken together so
abbrev pub held_by : ways.Way → gathered.Parts → holds.Held
held_by way.Sum parts = held.Sum parts
held_by way.Least parts = held.Least parts
held_by way.Greatest parts = held.Greatest parts

-- how numbers are taken together in what is held, and what they came to
abbrev pub way_in : holds.Held → ways.Way
way_in (held.Sum parts) = way.Sum
way_in (held.Least parts) = way.Least
way_in (held.Greatest parts) = way.Greatest

abbrev pub parts_in : holds.Held → gathered.Parts
parts_in (held.Sum parts) = parts
parts_in (held.Least parts) = parts
parts_in (held.Greatest parts) = parts

abbrev pub part_over : kernels.KernelName → List Num → Gathered
part_over k ns = record { many = length ns; held = held_over k ns }

-- the same kind of thing taken together
abbrev pub merged_held : holds.Held → holds.Held → holds.Held
merged_held (held.Sum one) (held.Sum other) = held.Sum (gathered.merged_by ◌+ℤ◌ one other)
merged_held (held.Least one) (held.Least other) = held.Least (gathered.merged_by int_min one other)
merged_held (held.Greatest one) (held.Greatest other) =
    held.Greatest (gathered.merged_by int_max one other)
merged_held one other = one

abbrev pub merged_part : Gathered → Gathered → Gathered
merged_part one other = record {
  many = one.many + other.many;
  held = merged_held one.held other.held;
}

-- a part behind another, if there is one
abbrev pub behind : Option Gathered → Gathered → Gathered
behind None other = other
behind (Some one) other = merged_part one other

-- parts merged place by place
abbrev pub merged_parts : List Gathered → List Gathered → List Gathered
merged_parts ones [] = []
merged_parts ones (other ∷ others) =
    behind (slice_get ones 0) other ∷ merged_parts (drop 1 ones) others

-- what is kept of records, for each kernel of a query
abbrev pub parts_over : List Agg → List Rec → List Gathered
parts_over aggs rs = map (λ agg. part_over agg.kernel (contributed agg rs)) aggs

-- Each sum is at most as many times 2^86 in magnitude as numbers contributed.
pub record AreBelow (many : ℕ) (parts : gathered.Parts) : Type 0 where
  pub whole : ForSome parts.whole (λ z. unsigned_abs z ≤ many * 2 ^ 86)
  pub fixed : ForSome parts.fixed (λ z. unsigned_abs z ≤ many * 2 ^ 86)

-- The whole numbers of which an end is held are at most 2^86 in magnitude.
abbrev pub HasRoom : ℕ → holds.Held → Type 0
HasRoom many (held.Sum sum) = AreBelow many sum
HasRoom many (held.Least end) = ForSome end.whole (IsWithin 86)
HasRoom many (held.Greatest end) = ForSome end.whole (IsWithin 86)

-- a number that numbers come to is within the limits of the kernel
abbrev pub IsWithinWay : ways.Way → Option ℤ → Type 0
IsWithinWay way.Sum n = ForSome n (IsWithin 126)
IsWithinWay way.Least n = ⊤
IsWithinWay way.Greatest n = ⊤
