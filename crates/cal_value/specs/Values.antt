use Rattle.std.specs.Prelude as std
use Rattle.std.specs.Prelude.{ℕ, List, ◌++◌, codes, decimal, if◌then◌else◌}
use Rattle.std.specs.Fmt.{signed_decimal, digits}
use Rattle.cal_value.specs.Decimals.{fixed_text}
use Rattle.cal_value.specs.Kinds.{kind_name}
use Rattle.cal_value.specs.declared.kind.Kind as kinds
use Rattle.cal_value.specs.declared.kind.Kind.TheVariants as kind
use Rattle.cal_value.specs.declared.variant.Variant as variants
use Rattle.cal_value.specs.declared.variant.Variant.TheVariants as variant

-- the kind whose values a value belongs to
abbrev pub kind_of : variants.Variant → kinds.Kind
kind_of (variant.Int n) = kind.Int
kind_of (variant.Uint n) = kind.Uint
kind_of (variant.Text t) = kind.Str
kind_of (variant.Bool b) = kind.Bool
kind_of (variant.Addr a) = kind.Addr
kind_of (variant.Kind k) = kind.TypeName
kind_of (variant.Real t) = kind.Double
kind_of (variant.Fixed n) = kind.Double
kind_of (variant.Usr t) = kind.Usr
kind_of (variant.Ptr t) = kind.Ptr

-- an address in lower-case hexadecimal digits, without leading zeros, behind `0x` (Giltmoth's rule)
abbrev pub address_text : ℕ → List ℕ
address_text a = codes "0x" ++ digits 16 std.false a

-- The text of a value (the `.cali` format; of an address, a kind and a decimal Giltmoth's rule): a
-- number in digits without leading zeros, a decimal without zeros at its end, and a text as it is.
abbrev pub value_text : variants.Variant → List ℕ
value_text (variant.Int n) = signed_decimal n
value_text (variant.Uint n) = decimal n
value_text (variant.Text t) = t
value_text (variant.Bool b) = if b then codes "true" else codes "false"
value_text (variant.Addr a) = address_text a
value_text (variant.Kind k) = kind_name k
value_text (variant.Real t) = t
value_text (variant.Fixed n) = fixed_text n
value_text (variant.Usr t) = t
value_text (variant.Ptr t) = t
