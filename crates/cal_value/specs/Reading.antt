use Rattle.std.specs.Prelude as std
use Rattle.std.specs.Prelude.{◌≡◌, ℕ, ℤ, Bool, ⊤, ◌<◌, ◌≤◌, unsigned_abs, ◌^◌, List, Option, Some}
use Rattle.std.specs.Prelude.{None, length, drop, codes, nat_eq, nat_le, unwrap_or, ◌||◌}
use Rattle.std.specs.Prelude.{if◌then◌else◌}
use Rattle.std.specs.Cmp.Lexicographic.{pointwise}
use Rattle.std.specs.List.{starts_with}
use Rattle.std.specs.Option.{option_map}
use Rattle.cal_value.specs.Decimals.{fixed_of}
use Rattle.cal_value.specs.Kinds.{kind_named}
use Rattle.cal_value.specs.Numerals.{at_most, number_of, signed_of}
use Rattle.cal_value.specs.declared.kind.Kind as kinds
use Rattle.cal_value.specs.declared.kind.Kind.TheVariants as kind
use Rattle.cal_value.specs.declared.variant.Variant as variants
use Rattle.cal_value.specs.declared.variant.Variant.TheVariants as variant

-- an optional minus and a decimal
abbrev pub int_of : List ℕ → Option ℤ
int_of = signed_of (number_of 10)

-- a decimal that 64 bits hold
abbrev pub uint_of : List ℕ → Option ℕ
uint_of t = at_most 18446744073709551615 (number_of 10 t)

-- 1 to 16 hexadecimal digits
abbrev pub hexadecimal_of : List ℕ → Option ℕ
hexadecimal_of t = if nat_le (length t) 16 then number_of 16 t else None

-- an optional `0x`, and then hexadecimal digits (Giltmoth's rule)
abbrev pub address_of : List ℕ → Option ℕ
address_of t = hexadecimal_of (if starts_with nat_eq t (codes "0x") then drop 2 t else t)

-- a decimal of at most nine digits behind the point is a number; any other text is kept as it is
abbrev pub double_of : List ℕ → variants.Variant
double_of t = unwrap_or (option_map variant.Fixed (fixed_of t)) (variant.Real t)

-- `true` and `1`, `false` and `0`, and nothing else
abbrev pub truth_of : List ℕ → Option Bool
truth_of t =
    if pointwise nat_eq t (codes "true") || pointwise nat_eq t (codes "1") then Some std.true
    else if pointwise nat_eq t (codes "false") || pointwise nat_eq t (codes "0") then Some std.false
    else None

-- the value of a kind that a text writes, if it writes one (the `.cali` format)
abbrev pub value_of : kinds.Kind → List ℕ → Option variants.Variant
value_of kind.Usr t = Some (variant.Usr t)
value_of kind.Int t = option_map variant.Int (int_of t)
value_of kind.Uint t = option_map variant.Uint (uint_of t)
value_of kind.Str t = Some (variant.Text t)
value_of kind.Addr t = option_map variant.Addr (address_of t)
value_of kind.Double t = Some (double_of t)
value_of kind.Bool t = option_map variant.Bool (truth_of t)
value_of kind.TypeName t = option_map variant.Kind (kind_named t)
value_of kind.Ptr t = Some (variant.Ptr t)

-- an Int and a Fixed have a magnitude of at most 2^86 (Giltmoth's rule)
abbrev pub IsSmall : variants.Variant → Type 0
IsSmall (variant.Int n) = unsigned_abs n ≤ 2 ^ 86
IsSmall (variant.Fixed n) = unsigned_abs n ≤ 2 ^ 86
IsSmall _ = ⊤

-- no text is kept as a Real that reads as a Fixed
abbrev pub IsProper : variants.Variant → Type 0
IsProper (variant.Real t) = fixed_of t ≡ None
IsProper _ = ⊤

-- a value that its text gives back
pub record IsReadable (v : variants.Variant) : Type 0 where
  pub small : IsSmall v
  pub proper : IsProper v

-- the numbers that the program holds in 64 bits, which a list of values doesn't say by itself
abbrev pub IsInRange : variants.Variant → Type 0
IsInRange (variant.Uint n) = n < 2 ^ 64
IsInRange (variant.Addr a) = a < 2 ^ 64
IsInRange _ = ⊤

-- whether a value is a text, which alone takes memory
abbrev pub is_textual : variants.Variant → Bool
is_textual (variant.Text t) = std.true
is_textual (variant.Real t) = std.true
is_textual (variant.Usr t) = std.true
is_textual (variant.Ptr t) = std.true
is_textual _ = std.false
