-- A printed decimal reads back.
use Rattle.std.proofs.Common.{◌≡◌, ◌≤◌, ◌<◌, ◌+◌, ◌-◌, ◌*◌, ◌/◌, ◌%◌, ◌^◌, ◌∙◌, ℕ, zero, suc, true}
use Rattle.std.proofs.Common.{false, List, [], ◌∷◌, ◌++◌, Some, length, take, drop, lit≤}
use Rattle.std.proofs.Common.{lit<, refl, sym, ap, mul_assoc, mul_comm, arith}
use Rattle.std.specs.Prelude.{decimal, nat_le, not, if◌then◌else◌}
use Rattle.std.specs.Char.{digit_value}
use Rattle.std.specs.List.{position_or_len}
use Rattle.std.specs.Option.{option_and_then, option_map}
use Rattle.std.specs.Str.Parse.{AllDigits, digits_value, digits_value_after}
use Rattle.std.proofs.lemmas.Bool.{cond-true}
use Rattle.std.proofs.lemmas.Bool.Decides.{nat_tests}
use Rattle.std.proofs.lemmas.Fmt.{decimal_is_IsNumeral_wide}
use Rattle.std.proofs.lemmas.Str.{digit_value_digit}
use Rattle.std.proofs.lemmas.Str.Parse.{digit_from_value}
use Rattle.std.proofs.Math.Nat.{add-mul, div-lt_iff_lt-mul, one-le-pow, pow-suc}
use Rattle.std.proofs.Math.Seq.{take-append_seam, drop-append_seam}
use Rattle.cal_value.specs.Decimals.{decimal_nanos, decimal_text, digits_behind, digits_nanos}
use Rattle.cal_value.specs.Decimals.{is_point, parts_nanos, rest_nanos, rest_text}
use Rattle.cal_value.specs.Numerals.{number_of}
use Rattle.cal_value.proofs.Numbers.{number_of-digits, number_of-numeral}

-- a digit's value
digit : (d : ℕ) → d < 10 → digit_value (48 + d) ≡ d
digit d h = omega (arith, digit_value_digit (48 + d) (omega arith, omega arith))

-- the first of so many digits is one
first_digit : (places n : ℕ) → n < 10 ^ suc places → n / 10 ^ places < 10
first_digit places n h =
    let low = one-le-pow places 10 (lit< tt) in
    (div-lt_iff_lt-mul low).1 (omega (arith, pow-suc 10 places))

-- digits behind the point are digits, and there are no more than places
digits_behind-digits :
    (places n : ℕ) → n < 10 ^ places
    → AllDigits 10 (digits_behind places n) × (length (digits_behind places n) ≤ places)
digits_behind-digits zero n h = (tt, omega arith)
digits_behind-digits (suc places) zero h = (tt, omega arith)
digits_behind-digits (suc places) (suc n) h =
    let low = one-le-pow places 10 (lit< tt) in
    let rest = digits_behind-digits places (suc n % 10 ^ places) (omega (arith, low)) in
    let small = first_digit places (suc n) h in
    let first = digit (suc n / 10 ^ places) small in
    ((omega arith, rest.0), omega arith)

-- a digit in front
in_front :
    (before d r n worth more : ℕ) → more ≡ worth * 10 → worth * d + r ≡ n
    → (before * 10 + d) * worth + r ≡ before * more + n
in_front before d r n worth more is_more is_n =
    let spread = add-mul (before * 10) d worth in
    let tens : before * 10 * worth ≡ before * more =
    mul_assoc before 10 worth ∙ ap (λ k. before * k) (mul_comm 10 worth ∙ sym is_more) in
    let turned : d * worth ≡ worth * d = mul_comm d worth in
    omega arith

-- with as many zeros as places are left they write what they are of
digits_behind-value :
    (places n before : ℕ) → n < 10 ^ places
    → digits_value_after 10 before (digits_behind places n)
    * 10 ^ (places - length (digits_behind places n))
    ≡ before * 10 ^ places + n
digits_behind-value zero n before h = omega arith
digits_behind-value (suc places) zero before h =
    let all : suc places - 0 ≡ suc places = omega arith in
    let same : before * 10 ^ suc places ≡ before * 10 ^ suc places + 0 = omega arith in
    ap (λ k. before * 10 ^ k) all ∙ same
digits_behind-value (suc places) (suc n) before h =
    let low = one-le-pow places 10 (lit< tt) in
    let d = suc n / 10 ^ places in
    let r = suc n % 10 ^ places in
    let after = digits_behind-value places r (before * 10 + d) (omega (arith, low)) in
    let ds = digits_behind places r in
    let left : suc places - suc (length ds) ≡ places - length ds = omega arith in
    let first = digit d (first_digit places (suc n) h) in
    let whole : 10 ^ places * d + r ≡ suc n = omega (arith, low) in
    (λ i. digits_value_after 10 (before * 10 + first i) ds * 10 ^ left i)
    ∙ after ∙ in_front before d r (suc n) (10 ^ places) (10 ^ suc places) (pow-suc 10 places) whole

digits_nanos-behind :
    (n : ℕ) → n < 1000000000 → 0 < length (digits_behind 9 n)
    → digits_nanos (digits_behind 9 n) ≡ Some n
digits_nanos-behind n h some =
    let ds = digits_behind 9 n in
    let is = digits_behind-digits 9 n h in
    let number = number_of-numeral 10 ds some is.0 in
    let short : nat_le (length ds) 9 ≡ true = grind (arith, nat_tests) in
    let value = digits_behind-value 9 n 0 h in
    let same : digits_value 10 ds * 10 ^ (9 - length ds) ≡ n = omega arith in
    cond-true (nat_le (length ds) 9) _ _ short
    ∙ ap (option_map (λ k. k * 10 ^ (9 - length ds))) number ∙ ap Some same

rest_nanos-text : (n : ℕ) → n < 1000000000 → rest_nanos (rest_text n) ≡ Some n
rest_nanos-text zero h = refl
rest_nanos-text (suc n) h = digits_nanos-behind (suc n) h (omega arith)

-- the point stands behind the whole part
point_behind :
    (ds : List ℕ) (n : ℕ) → AllDigits 10 ds
    → position_or_len is_point (ds ++ rest_text n) ≡ length ds
point_behind [] zero d = refl
point_behind [] (suc n) d = refl
point_behind (c ∷ cs) n d =
    let range = digit_from_value c d.0 in
    let other : is_point c ≡ false = grind (arith, nat_tests) in
    let rest = point_behind cs n d.1 in
    (λ i. if not (other i) then 1 + rest i else 0) ∙ omega arith

-- both parts as they are
parts_nanos-both :
    (whole rest : List ℕ) (w r : ℕ) → number_of 10 whole ≡ Some w → rest_nanos rest ≡ Some r
    → parts_nanos whole rest ≡ Some (w * 1000000000 + r)
parts_nanos-both whole rest w r is_w is_r i =
    option_and_then (λ v. option_map (λ s. v * 1000000000 + s) (is_r i)) (is_w i)

pub decimal_nanos-text : (n : ℕ) → n ≤ 2 ^ 86 → decimal_nanos (decimal_text n) ≡ Some n
decimal_nanos-text n h =
    let whole = n / 1000000000 in
    let rest = n % 1000000000 in
    let ds = decimal whole in
    let behind = rest_text rest in
    let text = ds ++ behind in
    let room : whole < 10 ^ 64 = omega arith in
    let is = decimal_is_IsNumeral_wide whole room in
    let place = point_behind ds rest is.0.1 in
    let number = number_of-digits 10 whole (lit≤ tt) (lit≤ tt) room in
    let nanos = rest_nanos-text rest (omega arith) in
    let sum : whole * 1000000000 + rest ≡ n = omega arith in
    (λ i. parts_nanos (take (place i) text) (drop (place i) text))
    ∙ (λ i. parts_nanos (take-append_seam ds behind i) (drop-append_seam ds behind i))
    ∙ parts_nanos-both ds behind whole rest number nanos ∙ ap Some sum
