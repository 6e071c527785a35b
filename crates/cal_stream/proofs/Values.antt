-- The text of a value is UTF-8.
use Rattle.std.proofs.Common.{◌+◌, ◌/◌, ◌%◌, ◌<◌, ◌≤◌, ◌^◌, ℕ, zero, suc, ℤ, pos, negsuc, Bool}
use Rattle.std.proofs.Common.{true, false, List, [], ◌∷◌, refl, arith, lit<, lit≤}
use Rattle.std.specs.Prelude.{unsigned_abs, codes, decimal}
use Rattle.std.specs.Char.{digit_value}
use Rattle.std.specs.Fmt.{digits, signed_decimal}
use Rattle.std.specs.Str.{IsAscii, IsUtf8}
use Rattle.std.specs.Str.Parse.{AllDigits}
use Rattle.std.proofs.Math.Nat.{div-lt_iff_lt-mul, one-le-pow, pow-suc}
use Rattle.std.proofs.lemmas.Bool.Decides.{nat_tests}
use Rattle.std.proofs.lemmas.Fmt.{IsAscii-decimal_wide, digits_is_IsNumeral}
use Rattle.std.proofs.lemmas.Str.{IsAscii-append, IsUtf8-from_ascii}
use Rattle.std.proofs.lemmas.Str.Ascii.{IsAscii-nil, IsAscii-cons}
use Rattle.cal_value.specs.Decimals.{decimal_text, digits_behind, fixed_text, rest_text}
use Rattle.cal_value.specs.Kinds.{kind_name}
use Rattle.cal_value.specs.Reading.{IsInRange, IsSmall}
use Rattle.cal_value.specs.Values.{value_text}
use Rattle.cal_value.specs.declared.kind.Kind as kinds
use Rattle.cal_value.specs.declared.kind.Kind.TheVariants as kind
use Rattle.cal_value.specs.declared.variant.Variant as variants
use Rattle.cal_value.specs.declared.variant.Variant.TheVariants as variant
use Rattle.cal_stream.specs.Readable.{IsHeldText}
use Rattle.cal_stream.proofs.Fields.{is_utf8_key}

ascii-signed : (n : ℤ) → unsigned_abs n ≤ 2 ^ 86 → IsAscii (signed_decimal n)
ascii-signed (pos n) small = IsAscii-decimal_wide n (omega arith)
ascii-signed (negsuc n) small = IsAscii-cons 45 (decimal (suc n)) (lit< tt)
    (IsAscii-decimal_wide (suc n) (omega arith))

hexadecimal-digit : (c : ℕ) → digit_value c < 16 → c < 128
hexadecimal-digit c small = grind (arith, nat_tests)

ascii-hexadecimal : (ds : List ℕ) → AllDigits 16 ds → IsAscii ds
ascii-hexadecimal [] are = IsAscii-nil
ascii-hexadecimal (c ∷ ds) are = IsAscii-cons c ds (hexadecimal-digit c are.0)
    (ascii-hexadecimal ds are.1)

ascii-behind : (places n : ℕ) → n < 10 ^ places → IsAscii (digits_behind places n)
ascii-behind zero n small = IsAscii-nil
ascii-behind (suc places) zero small = IsAscii-nil
ascii-behind (suc places) (suc n) small =
    let low = one-le-pow places 10 (lit< tt) in
    let first : suc n / 10 ^ places < 10 = (div-lt_iff_lt-mul low).1
    (omega (arith, pow-suc 10 places)) in
    IsAscii-cons (48 + suc n / 10 ^ places) (digits_behind places (suc n % 10 ^ places))
    (omega arith)
    (ascii-behind places (suc n % 10 ^ places) (omega (arith, low)))

ascii-rest : (n : ℕ) → n < 1000000000 → IsAscii (rest_text n)
ascii-rest zero small = IsAscii-nil
ascii-rest (suc n) small = IsAscii-cons 46 (digits_behind 9 (suc n)) (lit< tt)
    (ascii-behind 9 (suc n) small)

ascii-decimal_text : (n : ℕ) → n ≤ 2 ^ 86 → IsAscii (decimal_text n)
ascii-decimal_text n small =
    IsAscii-append (decimal (n / 1000000000)) (rest_text (n % 1000000000))
    (IsAscii-decimal_wide (n / 1000000000) (omega arith))
    (ascii-rest (n % 1000000000) (omega arith))

ascii-fixed : (n : ℤ) → unsigned_abs n ≤ 2 ^ 86 → IsAscii (fixed_text n)
ascii-fixed (pos n) small = ascii-decimal_text n small
ascii-fixed (negsuc n) small = IsAscii-cons 45 (decimal_text (suc n)) (lit< tt)
    (ascii-decimal_text (suc n) small)

utf8-truth : (b : Bool) → IsUtf8 (value_text (variant.Bool b))
utf8-truth true = is_utf8_key (codes "true") refl
utf8-truth false = is_utf8_key (codes "false") refl

utf8-kind : (k : kinds.Kind) → IsUtf8 (kind_name k)
utf8-kind kind.Usr = is_utf8_key (codes "usr") refl
utf8-kind kind.Int = is_utf8_key (codes "int") refl
utf8-kind kind.Uint = is_utf8_key (codes "uint") refl
utf8-kind kind.Str = is_utf8_key (codes "string") refl
utf8-kind kind.Addr = is_utf8_key (codes "addr") refl
utf8-kind kind.Double = is_utf8_key (codes "double") refl
utf8-kind kind.Bool = is_utf8_key (codes "bool") refl
utf8-kind kind.TypeName = is_utf8_key (codes "type") refl
utf8-kind kind.Ptr = is_utf8_key (codes "ptr") refl

pub utf8-value : (v : variants.Variant) → IsInRange v → IsSmall v → IsHeldText v
    → IsUtf8 (value_text v)
utf8-value (variant.Int n) range small text = IsUtf8-from_ascii (signed_decimal n)
    (ascii-signed n small)
utf8-value (variant.Uint n) range small text = IsUtf8-from_ascii (decimal n)
    (IsAscii-decimal_wide n (omega arith))
utf8-value (variant.Text t) range small text = text
utf8-value (variant.Bool b) range small text = utf8-truth b
utf8-value (variant.Addr a) range small text =
    let is = digits_is_IsNumeral 16 false (lit≤ tt) (lit≤ tt) a (omega arith) in
    IsUtf8-from_ascii (value_text (variant.Addr a))
    (IsAscii-cons 48 (120 ∷ digits 16 false a) (lit< tt)
    (IsAscii-cons 120 (digits 16 false a) (lit< tt)
    (ascii-hexadecimal (digits 16 false a) is.0.1)))
utf8-value (variant.Kind k) range small text = utf8-kind k
utf8-value (variant.Real t) range small text = text
utf8-value (variant.Fixed n) range small text = IsUtf8-from_ascii (fixed_text n)
    (ascii-fixed n small)
utf8-value (variant.Usr t) range small text = text
utf8-value (variant.Ptr t) range small text = text
