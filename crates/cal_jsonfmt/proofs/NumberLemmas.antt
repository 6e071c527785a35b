-- Numbers that 64 bits hold.
use Rattle.std.proofs.Common.{◌≡◌, ℕ, ◌<◌, ◌^◌, ℤ, pos, negsuc, ◌≤ℤ◌, ◌<ℤ◌, nat_lt, true, refl, subst, arith}
use Rattle.std.specs.Prelude.{decimal}
use Rattle.std.specs.Fmt.{signed_decimal}
use Rattle.std.proofs.lemmas.Bool.Decides.{nat_tests}
use Rattle.std.proofs.lemmas.Int.{ints}
use Rattle.cal_jsonfmt.specs.Json.{fits_64_bits}

below-is : (n m : ℕ) → n < m → nat_lt n m ≡ true
below-is n m l = grind (arith, nat_tests)

pub positive-fits : (z : ℤ) → pos 0 ≤ℤ z → z ≤ℤ pos 18446744073709551615 → fits_64_bits z ≡ true
positive-fits (pos n) l m = below-is n (2 ^ 64) (omega (arith, ints))
positive-fits (negsuc n) l m = absurd (omega (arith, ints))

pub negative-fits : (z : ℤ) → negsuc 9223372036854775807 ≤ℤ z → z <ℤ pos 0 → fits_64_bits z ≡ true
negative-fits (pos n) l m = absurd (omega (arith, ints))
negative-fits (negsuc n) l m = below-is n (2 ^ 63) (omega (arith, ints))

pub positive-digits : (n : ℕ) (z : ℤ) → pos n ≡ z → decimal n ≡ signed_decimal z
positive-digits n z is = subst (λ (w : ℤ). decimal n ≡ signed_decimal w) is refl
