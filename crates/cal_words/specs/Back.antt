use Rattle.std.specs.Prelude.{ℕ, ℤ, zero, suc, ◌+◌, ◌*◌, ◌/◌, ◌%◌, ◌^◌, ◌==◌, List, [], ◌∷◌, map}
use Rattle.std.specs.Prelude.{if◌then◌else◌, slice_index}
use Rattle.std.specs.Int.{cast_signed, to_le_bytes, w64, w128}
use Rattle.std.specs.List.{range_with_len}
use Rattle.cal_value.specs.declared.kind.Kind as kinds
use Rattle.cal_value.specs.declared.kind.Kind.TheVariants as kind
use Rattle.cal_value.specs.declared.variant.Variant as variants
use Rattle.cal_value.specs.declared.variant.Variant.TheVariants as variant

-- the kind of a node (Giltmoth's rule)
abbrev pub kind_from : ℕ → kinds.Kind
kind_from n =
    if n == 1 then kind.Int else if n == 2 then kind.Uint else if n == 3 then kind.Str else
    if n == 4 then kind.Addr else if n == 5 then kind.Double else if n == 6 then kind.Bool else
    if n == 7 then kind.TypeName else if n == 11 then kind.Ptr else kind.Usr

-- the text of so many bytes that these words hold: byte k is byte k % 8 of word k / 8
abbrev pub byte_of : List ℕ → ℕ → ℕ
byte_of words k = slice_index (to_le_bytes w64 (slice_index words (k / 8))) (k % 8)

abbrev pub text_of : ℕ → List ℕ → List ℕ
text_of count words = map (byte_of words) (range_with_len 0 count)

-- the number of these halves, the low one first
abbrev pub number_of : List ℕ → ℤ
number_of words = cast_signed w128 (slice_index words 1 * 2 ^ 64 + slice_index words 0)

-- of the kind `double` a text has a length or no word, and a decimal no length and two words
abbrev pub double_of : ℕ → List ℕ → variants.Variant
double_of zero [] = variant.Real []
double_of zero (word ∷ words) = variant.Fixed (number_of (word ∷ words))
double_of (suc count) words = variant.Real (text_of (suc count) words)

-- the value of this kind, text length and words
abbrev pub value_of : ℕ → ℕ → List ℕ → variants.Variant
value_of kind count words =
    if kind == 1 then variant.Int (number_of words) else
    if kind == 2 then variant.Uint (slice_index words 0) else
    if kind == 3 then variant.Text (text_of count words) else
    if kind == 4 then variant.Addr (slice_index words 0) else
    if kind == 5 then double_of count words else
    if kind == 6 then variant.Bool (slice_index words 0 == 1) else
    if kind == 7 then variant.Kind (kind_from (slice_index words 0)) else
    if kind == 11 then variant.Ptr (text_of count words) else variant.Usr (text_of count words)
