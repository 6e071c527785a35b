use Rattle.std.proofs.Common.{rules, sym, FitsSigned}
use Rattle.std.proofs.lemmas.Int.{to_z-of_z}
use Rattle.cal_agg.proofs.Sums.{both-sum}
use Rattle.cal_agg.proofs.parts.added.Goals as goal
use mir.Syntax.{w128}

pub overflow_add-result : goal.overflow_add-result
overflow_add-result c =
    let sum = both-sum _ _ _ _ c.in-Some-Some.is-0 c.in-Some-Some.is-1 c.requires in
    let one : FitsSigned w128 c.in-Some-Some.one = search rules in
    let other : FitsSigned w128 c.in-Some-Some.other = search rules in
    rw (to_z-of_z w128 _ one, to_z-of_z w128 _ other) sum.fits

pub returns-in-Some-Some : goal.returns-in-Some-Some
returns-in-Some-Some c =
    let sum = both-sum _ _ _ _ c.in-Some-Some.is-0 c.in-Some-Some.is-1 c.requires in
    let one : FitsSigned w128 c.in-Some-Some.one = search rules in
    let other : FitsSigned w128 c.in-Some-Some.other = search rules in
    rw (to_z-of_z w128 _ one, to_z-of_z w128 _ other, to_z-of_z w128 _ sum.fits) (sym sum.value)
