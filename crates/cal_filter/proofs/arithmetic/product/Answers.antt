use Rattle.std.proofs.Common.{◌≡◌, ◌≤◌, ◌*◌, ◌^◌, ◌*ℤ◌, ℤ, FitsSigned, subst, sym, arith}
use Rattle.std.specs.Int.RustNames.{unsigned_abs}
use Rattle.std.proofs.lemmas.Int.{fits_signed_mul, to_z-of_z, unsigned_abs-mul}
use Rattle.std.proofs.Math.Nat.{mul-le-mul}
use Rattle.cal_agg.specs.Numbers.{IsWithin}
use Rattle.cal_filter.proofs.arithmetic.product.Goals as goal
use mir.Syntax.{w128}
use mir.Val.{to_z, of_z}

read_back : (a b : ℤ) → FitsSigned w128 a → FitsSigned w128 b → unsigned_abs a ≤ 2 ^ 86
    → unsigned_abs b ≤ 2 ^ 31
    → to_z w128 (of_z w128 (to_z w128 (of_z w128 a) *ℤ to_z w128 (of_z w128 b))) ≡ a *ℤ b
read_back a b fa fb small within =
    let fits = fits_signed_mul w128 a b (2 ^ 86) (2 ^ 31) small within (omega arith) in
    grind (arith, to_z-of_z)

product_within : (a b : ℤ) → unsigned_abs a ≤ 2 ^ 86 → unsigned_abs b ≤ 2 ^ 31
    → IsWithin 117 (a *ℤ b)
product_within a b small within =
    let bound : unsigned_abs a * unsigned_abs b ≤ 2 ^ 86 * 2 ^ 31 = mul-le-mul small within in
    rw (unsigned_abs-mul a b) (omega arith)

pub returns-clause-value : goal.returns-clause-value
returns-clause-value c =
    read_back c.args.number c.args.n c.ranges.number c.ranges.n c.requires.small
    c.requires.within

pub returns-clause-within : goal.returns-clause-within
returns-clause-within c =
    let same = read_back c.args.number c.args.n c.ranges.number c.ranges.n
    c.requires.small c.requires.within in
    subst (IsWithin 117) (sym same)
    (product_within c.args.number c.args.n c.requires.small c.requires.within)
