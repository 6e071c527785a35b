use Rattle.std.specs.Prelude.{ℤ, pos, Bool, Option, Some, None, is_some, ◌*ℤ◌, if◌then◌else◌}
use Rattle.cal_value.specs.Kinds.{kind_node}
use Rattle.cal_value.specs.declared.variant.Variant as variants
use Rattle.cal_value.specs.declared.variant.Variant.TheVariants as variant

-- The nano-units of a whole number.
abbrev pub nanos : ℤ → ℤ
nanos n = pos 1000000000 *ℤ n

-- The whole number that a value is: an Int or a Uint.
abbrev pub whole_number : variants.Variant → Option ℤ
whole_number (variant.Int n) = Some n
whole_number (variant.Uint n) = Some (pos n)
whole_number _ = None

-- The measure of a number: its value in nano-units, which a Fixed is by itself (Giltmoth's rule).
abbrev pub measure : variants.Variant → Option ℤ
measure (variant.Int n) = Some (nanos n)
measure (variant.Uint n) = Some (nanos (pos n))
measure (variant.Fixed n) = Some n
measure _ = None

-- A value is a number where it has a measure.
abbrev pub is_number : variants.Variant → Bool
is_number v = is_some (measure v)

-- the number by which a value is ordered among those of its class that aren't Fixed
abbrev pub value_whole : variants.Variant → ℤ
value_whole (variant.Int n) = n
value_whole (variant.Uint n) = pos n
value_whole (variant.Bool b) = if b then pos 1 else pos 0
value_whole (variant.Addr a) = pos a
value_whole (variant.Kind k) = pos (kind_node k)
value_whole _ = pos 0
