use Rattle.std.proofs.Common.{◌+ℤ◌, FitsSigned, rules, arith}
use Rattle.std.proofs.lemmas.Int.{ints, to_z-of_z}
use Rattle.cal_agg.proofs.figures.sum.Goals as goal
use mir.Syntax.{w128}

pub returns : goal.returns
returns c =
    let fits : FitsSigned w128 (c.args.one +ℤ c.args.other) = omega (arith, ints, c.requires) in
    let one : FitsSigned w128 c.args.one = search rules in
    let other : FitsSigned w128 c.args.other = search rules in
    rw (to_z-of_z w128 _ one, to_z-of_z w128 _ other, to_z-of_z w128 _ fits)
