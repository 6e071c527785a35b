-- How many numbers stay within the limits of a sum: their magnitudes are at most 2^86 each.
use Rattle.std.specs.Prelude.{◌≡◌, ℕ, ◌+◌, ◌*◌, ◌^◌, ◌≤◌, ℤ, ◌+ℤ◌, unsigned_abs}
use Rattle.std.specs.Prelude.{List, [], ◌∷◌, length, All, Option, None, Some}
use Rattle.std.specs.List.{AllByRecursion}
use Rattle.std.proofs.Common.{arith}
use Rattle.std.proofs.lemmas.Int.{ints}
use Rattle.std.proofs.lemmas.List.Elements.{recursion_from_All}
use Rattle.cal_agg.specs.declared.num.Num.{Num}
use Rattle.cal_agg.specs.declared.num.Num.TheVariants.{Whole, Fixed}
use Rattle.cal_agg.specs.Numbers.{IsSmall, IsSmallWhole, IsWithin}
use Rattle.cal_agg.specs.Results.{both, count_of}
use Rattle.cal_agg.specs.Parts.{AreWithin, sum_over}

-- the magnitude of a sum is at most the sum of the magnitudes
unsigned_abs-add : (x y : ℤ) → unsigned_abs (x +ℤ y) ≤ unsigned_abs x + unsigned_abs y
unsigned_abs-add x y = omega (arith, ints)

count_bound : (ns : List Num) → AllByRecursion IsSmallWhole ns
    → unsigned_abs (count_of ns) ≤ length ns * 2 ^ 86
count_bound [] h = omega arith
count_bound (Whole n ∷ ns) h =
    let rest = count_bound ns h.1 in
    let add = unsigned_abs-add n (count_of ns) in
    let small = h.0 in
    omega arith
count_bound (Fixed n ∷ ns) h = absurd h.0

-- a count of at most 2^40 weights
pub count_of-within : (ns : List Num) → All IsSmallWhole ns → length ns ≤ 2 ^ 40
    → IsWithin 126 (count_of ns)
count_of-within ns small short =
    let bound = count_bound ns (recursion_from_All IsSmallWhole ns small) in
    omega arith

-- a sum that may be missing, as a magnitude
abbrev pub magnitude : Option ℤ → ℕ
magnitude None = 0
magnitude (Some z) = unsigned_abs z

pub magnitude-both : (x y : Option ℤ) → magnitude (both ◌+ℤ◌ x y) ≤ magnitude x + magnitude y
magnitude-both None y = omega arith
magnitude-both (Some x) None = omega arith
magnitude-both (Some x) (Some y) = unsigned_abs-add x y

-- what each part of a sum of so many numbers is at most
record AreBelow (bound : ℕ) (ns : List Num) : Type 0 where
  whole : magnitude (sum_over ns).whole ≤ bound
  fixed : magnitude (sum_over ns).fixed ≤ bound

sum_bound : (ns : List Num) → AllByRecursion IsSmall ns → AreBelow (length ns * 2 ^ 86) ns
sum_bound [] h = record { whole = omega arith; fixed = omega arith }
sum_bound (Whole n ∷ ns) h =
    let rest = sum_bound ns h.1 in
    let add = magnitude-both (Some n) (sum_over ns).whole in
    let small = h.0 in
    record { whole = omega arith; fixed = omega arith }
sum_bound (Fixed n ∷ ns) h =
    let rest = sum_bound ns h.1 in
    let add = magnitude-both (Some n) (sum_over ns).fixed in
    let small = h.0 in
    record { whole = omega arith; fixed = omega arith }

pub magnitude_within : (bits : ℕ) (z : Option ℤ) → magnitude z ≤ 2 ^ bits
    → (x : ℤ) → z ≡ Some x → IsWithin bits x
magnitude_within bits z h x e = rw e at h

-- a sum of at most 2^40 numbers
pub sum_over-within : (ns : List Num) → All IsSmall ns → length ns ≤ 2 ^ 40
    → AreWithin 126 (sum_over ns)
sum_over-within ns small short =
    let bound = sum_bound ns (recursion_from_All IsSmall ns small) in
    record {
      whole = magnitude_within 126 (sum_over ns).whole (omega arith);
      fixed = magnitude_within 126 (sum_over ns).fixed (omega arith);
    }

-- a sum of at most 2^32 numbers, of which a percentage may be taken
pub sum_over-within_118 : (ns : List Num) → All IsSmall ns → length ns ≤ 2 ^ 32
    → AreWithin 118 (sum_over ns)
sum_over-within_118 ns small short =
    let bound = sum_bound ns (recursion_from_All IsSmall ns small) in
    record {
      whole = magnitude_within 118 (sum_over ns).whole (omega arith);
      fixed = magnitude_within 118 (sum_over ns).fixed (omega arith);
    }
