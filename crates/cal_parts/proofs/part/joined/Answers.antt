use Rattle.std.proofs.Common.{◌+ℤ◌, FitsSigned, Some, refl, rules, subst, sym, ap, arith}
use Rattle.std.proofs.lemmas.Int.{ints, to_z-of_z}
use Rattle.cal_agg.specs.Numbers.{IsWithin}
use Rattle.cal_parts.specs.Parts.{IsWithinWay, joined_by}
use Rattle.cal_parts.proofs.part.joined.Goals as goal
use mir.Syntax.{w128}

pub overflow_add-result : goal.overflow_add-result
overflow_add-result c =
    let x = c.args.one in
    let y = c.args.other in
    let within : IsWithin 126 (x +ℤ y) = subst (λ w. IsWithinWay w (Some (joined_by w x y))) c.in-Sum.is c.requires (x +ℤ y) refl in
    let fits : FitsSigned w128 (x +ℤ y) = omega (arith, ints) in
    let one : FitsSigned w128 x = search rules in
    let other : FitsSigned w128 y = search rules in
    rw (to_z-of_z w128 _ one, to_z-of_z w128 _ other) fits

pub returns-in-Sum : goal.returns-in-Sum
returns-in-Sum c =
    let x = c.args.one in
    let y = c.args.other in
    let within : IsWithin 126 (x +ℤ y) = subst (λ w. IsWithinWay w (Some (joined_by w x y))) c.in-Sum.is c.requires (x +ℤ y) refl in
    let fits : FitsSigned w128 (x +ℤ y) = omega (arith, ints) in
    let one : FitsSigned w128 x = search rules in
    let other : FitsSigned w128 y = search rules in
    rw (to_z-of_z w128 _ one, to_z-of_z w128 _ other, to_z-of_z w128 _ fits) (ap (λ w. joined_by w x y) (sym c.in-Sum.is))
