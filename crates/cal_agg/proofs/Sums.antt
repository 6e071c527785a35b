-- Two numbers that are there, added where their sum is small.
use Rattle.std.proofs.Common.{◌≡◌, ◌≤◌, ◌^◌, ℤ, ◌+ℤ◌, Option, Some, FitsSigned, arith}
use Rattle.std.specs.Option.{ForSome}
use Rattle.std.specs.Int.RustNames.{unsigned_abs}
use Rattle.std.proofs.lemmas.Int.{fits_signed_from_abs}
use Rattle.cal_agg.specs.Numbers.{IsWithin}
use Rattle.cal_agg.specs.Results.{both}
use mir.Syntax.{w128}

pub record IsSum (x y : Option ℤ) (a b : ℤ) : Type 0 where
  pub value : both ◌+ℤ◌ x y ≡ Some (a +ℤ b)
  pub fits : FitsSigned w128 (a +ℤ b)

pub both-sum : (x y : Option ℤ) (a b : ℤ) → x ≡ Some a → y ≡ Some b
    → ForSome (both ◌+ℤ◌ x y) (IsWithin 126) → IsSum x y a b
both-sum x y a b p q small =
    let value : both ◌+ℤ◌ x y ≡ Some (a +ℤ b) = rw (p, q) in
    let below : unsigned_abs (a +ℤ b) ≤ 2 ^ 126 = small (a +ℤ b) value in
    record { value = value; fits = fits_signed_from_abs w128 (a +ℤ b) (omega arith) }
