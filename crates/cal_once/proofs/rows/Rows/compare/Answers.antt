use Rattle.std.proofs.Common.{◌+◌, ◌^◌, ◌%◌, ap, ◌∙◌, arith}
use Rattle.cal_once.proofs.rows.Rows.compare.Goals as goal

pub returns-clause-same : goal.returns-clause-same
returns-clause-same g c =
    let inv = c.loop-i.invariant in
    record { slot = c.args.slot; known = inv.learns.more _ _ c.requires.known; size = c.if-slot-size.false ∙ c.len-size.ensures; each = λ i l. inv.known i (omega arith) }
