-- A number that is doubled.
use Rattle.std.proofs.Common.{◌≡◌, ℕ, ◌+◌, ◌*◌, ◌<◌, ◌≤◌, ◌^◌, ℤ, ◌+ℤ◌, subst, refl, arith}
use Rattle.std.specs.Int.RustNames.{unsigned_abs}
use Rattle.std.proofs.lemmas.Int.{ints}
use Rattle.std.proofs.lemmas.Grind.{pow_more}
use Rattle.std.proofs.Math.Pow.{pow_mono}
use Rattle.std.specs.Prelude.{Option, None, Some}
use Rattle.std.specs.Option.{ForSome}
use Rattle.cal_agg.specs.Numbers.{IsWithin}
use Rattle.cal_agg.specs.Parts.{Parts, AreWithin, merged_by}
use Rattle.cal_agg.specs.Results.{both}

pub doubled : (z : ℤ) (bits : ℕ) → unsigned_abs z ≤ 2 ^ bits
    → unsigned_abs (z +ℤ z) ≤ 2 ^ (bits + 1)
doubled z bits h = rw (pow_more 2 bits) (omega (arith, ints))

pub doubled_within : (z : ℤ) (bits : ℕ) → unsigned_abs z ≤ 2 ^ bits → bits < 126
    → unsigned_abs (z +ℤ z) ≤ 2 ^ 126
doubled_within z bits h short =
    let more = doubled z bits h in
    let most : 2 ^ (bits + 1) ≤ 2 ^ 126 = pow_mono {i = bits + 1} {j = 126} (omega arith) in
    omega arith

doubled_part : (o : Option ℤ) (bits : ℕ) → ForSome o (IsWithin bits)
    → ForSome (both ◌+ℤ◌ o o) (IsWithin (bits + 1))
doubled_part None bits h x e = absurd cc
doubled_part (Some z) bits h x e =
    let is : z +ℤ z ≡ x = cc in subst (IsWithin (bits + 1)) is (doubled z bits (h z refl))

pub doubled_parts : (p : Parts) (bits : ℕ) → AreWithin bits p
    → AreWithin (bits + 1) (merged_by ◌+ℤ◌ p p)
doubled_parts p bits h = record {
  whole = doubled_part p.whole bits h.whole;
  fixed = doubled_part p.fixed bits h.fixed;
}

-- what is within a power of two is within a greater one
pub parts_within : (p : Parts) (bits : ℕ) → AreWithin bits p → bits ≤ 126 → AreWithin 126 p
parts_within p bits h short =
    let most : 2 ^ bits ≤ 2 ^ 126 = pow_mono {i = bits} {j = 126} short in
    record {
      whole = λ x e. let within : unsigned_abs x ≤ 2 ^ bits = h.whole x e in omega arith;
      fixed = λ x e. let within : unsigned_abs x ≤ 2 ^ bits = h.fixed x e in omega arith;
    }
