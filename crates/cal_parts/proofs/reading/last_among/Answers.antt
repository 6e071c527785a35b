use Rattle.std.proofs.Common.{sym, ap, ◌∙◌, arith}
use Rattle.cal_parts.specs.Kernels.{or_else}
use Rattle.cal_parts.proofs.Lasts.{numbers_pass, numbers_take}
use Rattle.cal_parts.proofs.reading.last_among.Goals as goal
use Rattle.cal_parts.proofs.reading.last_among.Goals.{then-is_named, else-is_named}

pub loop-entry-preserved : goal.loop-entry-preserved
loop-entry-preserved c =
    elim c.if-is_named.branch [
      | then-is_named w ↦
          numbers_take c.args.whole c.args.name.now c.args.before c.args.entries.now c.loop-entry.entry-index
          c.entry-item.result c.loop-entry.last c.if-is_named.last (omega arith) c.entry-item.is
          (sym c.is_named.ensures ∙ w.if-is_named.true) c.loop-entry.invariant
          (w.last-is ∙ w.or_else-last.ensures ∙ ap (λ o. or_else o c.loop-entry.last) w.number_sought.ensures)
      | else-is_named w ↦
          w.last-is ∙ numbers_pass c.args.whole c.args.name.now c.args.before c.args.entries.now c.loop-entry.entry-index
          c.entry-item.result c.loop-entry.last (omega arith) c.entry-item.is
          (sym c.is_named.ensures ∙ w.if-is_named.false) c.loop-entry.invariant
    ]
