-- The text of a value is UTF-8, where the value of a text is.
use Rattle.std.proofs.Common.{◌≡◌, ◌+◌, ◌/◌, ◌%◌, ◌<◌, ◌≤◌, ◌^◌, ℕ, zero, suc, ℤ, pos, negsuc, Bool}
use Rattle.std.proofs.Common.{true, false, List, [], ◌∷◌, refl, arith, lit<, lit≤}
use Rattle.std.specs.Prelude.{nat_lt, unsigned_abs, codes, decimal, if◌then◌else◌}
use Rattle.std.specs.List.{list_all}
use Rattle.std.specs.Cmp.{first_so, second_so}
use borrow.Author.Tests.{ltb-true}
use Rattle.std.specs.Char.{digit_value}
use Rattle.std.specs.Fmt.{digits, signed_decimal}
use Rattle.std.specs.Str.{IsAscii, IsUtf8}
use Rattle.std.specs.Str.Parse.{AllDigits}
use Rattle.std.proofs.Math.Nat.{div-lt_iff_lt-mul, one-le-pow, pow-suc}
use Rattle.std.proofs.lemmas.Bool.Decides.{nat_tests}
use Rattle.std.proofs.lemmas.Fmt.{IsAscii-decimal_wide, digits_is_IsNumeral}
use Rattle.std.proofs.lemmas.Str.{IsAscii-append, IsUtf8-from_ascii}
use Rattle.std.proofs.lemmas.Str.Ascii.{IsAscii-nil, IsAscii-cons}
use Rattle.cal_value.specs.Decimals.{decimal_text, digits_behind, fixed_text, rest_text}
use Rattle.cal_value.specs.Values.{address_text}

ascii_signed : (n : ℤ) → unsigned_abs n ≤ 2 ^ 86 → IsAscii (signed_decimal n)
ascii_signed (pos n) small = IsAscii-decimal_wide n (omega arith)
ascii_signed (negsuc n) small = IsAscii-cons 45 (decimal (suc n)) (lit< tt)
    (IsAscii-decimal_wide (suc n) (omega arith))

hexadecimal_digit : (c : ℕ) → digit_value c < 16 → c < 128
hexadecimal_digit c small = grind (arith, nat_tests)

ascii_hexadecimal : (ds : List ℕ) → AllDigits 16 ds → IsAscii ds
ascii_hexadecimal [] are = IsAscii-nil
ascii_hexadecimal (c ∷ ds) are = IsAscii-cons c ds (hexadecimal_digit c are.0)
    (ascii_hexadecimal ds are.1)

ascii_behind : (places n : ℕ) → n < 10 ^ places → IsAscii (digits_behind places n)
ascii_behind zero n small = IsAscii-nil
ascii_behind (suc places) zero small = IsAscii-nil
ascii_behind (suc places) (suc n) small =
    let low = one-le-pow places 10 (lit< tt) in
    let first : suc n / 10 ^ places < 10 = (div-lt_iff_lt-mul low).1
    (omega (arith, pow-suc 10 places)) in
    IsAscii-cons (48 + suc n / 10 ^ places) (digits_behind places (suc n % 10 ^ places))
    (omega arith)
    (ascii_behind places (suc n % 10 ^ places) (omega (arith, low)))

ascii_rest : (n : ℕ) → n < 1000000000 → IsAscii (rest_text n)
ascii_rest zero small = IsAscii-nil
ascii_rest (suc n) small = IsAscii-cons 46 (digits_behind 9 (suc n)) (lit< tt)
    (ascii_behind 9 (suc n) small)

ascii_decimal_text : (n : ℕ) → n ≤ 2 ^ 86 → IsAscii (decimal_text n)
ascii_decimal_text n small =
    IsAscii-append (decimal (n / 1000000000)) (rest_text (n % 1000000000))
    (IsAscii-decimal_wide (n / 1000000000) (omega arith))
    (ascii_rest (n % 1000000000) (omega arith))

ascii_fixed : (n : ℤ) → unsigned_abs n ≤ 2 ^ 86 → IsAscii (fixed_text n)
ascii_fixed (pos n) small = ascii_decimal_text n small
ascii_fixed (negsuc n) small = IsAscii-cons 45 (decimal_text (suc n)) (lit< tt)
    (ascii_decimal_text (suc n) small)

-- ---- the texts of numbers

pub signed_utf8 : (n : ℤ) → unsigned_abs n ≤ 2 ^ 86 → IsUtf8 (signed_decimal n)
signed_utf8 n small = IsUtf8-from_ascii (signed_decimal n) (ascii_signed n small)

pub decimal_utf8 : (n : ℕ) → n < 2 ^ 64 → IsUtf8 (decimal n)
decimal_utf8 n small = IsUtf8-from_ascii (decimal n) (IsAscii-decimal_wide n (omega arith))

pub fixed_utf8 : (n : ℤ) → unsigned_abs n ≤ 2 ^ 86 → IsUtf8 (fixed_text n)
fixed_utf8 n small = IsUtf8-from_ascii (fixed_text n) (ascii_fixed n small)

pub address_utf8 : (a : ℕ) → a < 2 ^ 64 → IsUtf8 (address_text a)
address_utf8 a small =
    let is = digits_is_IsNumeral 16 false (lit≤ tt) (lit≤ tt) a (omega arith) in
    IsUtf8-from_ascii (address_text a)
    (IsAscii-cons 48 (120 ∷ digits 16 false a) (lit< tt)
    (IsAscii-cons 120 (digits 16 false a) (lit< tt) (ascii_hexadecimal (digits 16 false a) is.0.1)))

ascii_all : (bs : List ℕ) → list_all (λ b. nat_lt b 128) bs ≡ true → IsAscii bs
ascii_all [] is = IsAscii-nil
ascii_all (b ∷ bs) is =
    let first = first_so (nat_lt b 128) (list_all (λ b. nat_lt b 128) bs) is in
    let rest = second_so (nat_lt b 128) (list_all (λ b. nat_lt b 128) bs) is in
    IsAscii-cons b bs (ltb-true b 128 first) (ascii_all bs rest)

pub truth_utf8 : (b : Bool) → IsUtf8 (if b then codes "true" else codes "false")
truth_utf8 true = IsUtf8-from_ascii (codes "true") (ascii_all (codes "true") refl)
truth_utf8 false = IsUtf8-from_ascii (codes "false") (ascii_all (codes "false") refl)
