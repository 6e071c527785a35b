use Rattle.std.proofs.Common.{FitsSigned, rules}
use Rattle.std.proofs.lemmas.Int.{to_z-of_z}
use Rattle.cal_write.proofs.EscapeLemmas.{written-int, written-uint}
use Rattle.cal_write.proofs.lines.write_value.Goals as goal
use mir.Syntax.{w128}

pub returns-in-Int : goal.returns-in-Int
returns-in-Int c =
    let fits : FitsSigned w128 c.in-Int.number = search rules in
    let wrote = rw (to_z-of_z w128 c.in-Int.number fits) at c.write_int.ensures in
    rw (written-int c.args.value.now c.in-Int.number c.in-Int.is) wrote

pub returns-in-Uint : goal.returns-in-Uint
returns-in-Uint c = rw (written-uint c.args.value.now c.in-Uint.number c.in-Uint.is) c.write_uint.ensures
