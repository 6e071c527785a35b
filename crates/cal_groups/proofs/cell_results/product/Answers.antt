use Rattle.std.proofs.Common.{◌≡◌, ◌≤◌, ◌+◌, ◌^◌, ◌*ℤ◌, ℤ, FitsSigned, arith}
use Rattle.std.specs.Int.RustNames.{unsigned_abs}
use Rattle.std.proofs.lemmas.Int.{fits_signed_mul, to_z-of_z}
use Rattle.cal_groups.proofs.cell_results.product.Goals as goal
use mir.Syntax.{w128}
use mir.Val.{to_z, of_z}

-- the product of two numbers within bounds is read back as it is
read_back : (a b : ℤ) → FitsSigned w128 a → FitsSigned w128 b → unsigned_abs a ≤ 2 ^ 40 + 1
    → unsigned_abs b ≤ 2 ^ 86
    → to_z w128 (of_z w128 (to_z w128 (of_z w128 a) *ℤ to_z w128 (of_z w128 b))) ≡ a *ℤ b
read_back a b fa fb few small =
    let fits = fits_signed_mul w128 a b (2 ^ 40 + 1) (2 ^ 86) few small (omega arith) in
    grind (arith, to_z-of_z)

pub returns : goal.returns
returns c =
    read_back c.args.others c.args.number c.ranges.others c.ranges.number c.requires.others
    c.requires.small
