use Rattle.std.proofs.Common.{sym, ap, ◌∙◌, arith}
use Rattle.std.specs.Option.{option_copied}
use Rattle.cal_filter.specs.Named.{is_named}
use Rattle.cal_engine.proofs.LastValues.{values_pass, values_take}
use Rattle.cal_engine.proofs.sorting.last_among.Goals as goal
use Rattle.cal_engine.proofs.sorting.last_among.Goals.{then-is_named, else-is_named}

pub loop-entry-preserved : goal.loop-entry-preserved
loop-entry-preserved c =
    let named = c.is_named.ensures ∙ ap (λ n. is_named n c.entry-item.result) c.as_str.ensures in
    elim c.if-is_named.branch [
      | then-is_named w ↦
          ap option_copied w.last-is ∙ values_take c.args.name.now (option_copied c.args.before) c.args.entries.now c.loop-entry.entry-index
          c.entry-item.result (omega arith) c.entry-item.is
          (sym named ∙ w.if-is_named.true)
      | else-is_named w ↦
          ap option_copied w.last-is ∙ values_pass c.args.name.now (option_copied c.args.before) c.args.entries.now c.loop-entry.entry-index
          c.entry-item.result (option_copied c.loop-entry.last) (omega arith) c.entry-item.is
          (sym named ∙ w.if-is_named.false) c.loop-entry.invariant
    ]
