use Rattle.std.proofs.Common.{◌<◌, length, sym, ◌∙◌, arith}
use Rattle.std.specs.Option.{option_or}
use Rattle.cal_table.proofs.Lasts.{last_number-flagged, last_number-unflagged}
use Rattle.cal_table.proofs.draft.last_number.Goals as goal
use Rattle.cal_table.proofs.draft.last_number.Goals.{then-is_flagged, else-is_flagged}

pub loop-entry-preserved : goal.loop-entry-preserved
loop-entry-preserved c =
    let within : c.loop-entry.entry-index < length c.args.imms.now = omega arith in
    elim c.if-is_flagged.branch [
      | then-is_flagged w ↦ w.last-is ∙ w.or-last.ensures ∙ (λ i. option_or (w.number_in.ensures i) (c.loop-entry.invariant i)) ∙ sym (last_number-flagged c.args.flags.now c.args.imms.now c.loop-entry.entry-index c.entry-item.result within c.entry-item.is (sym c.is_flagged.ensures ∙ w.if-is_flagged.true))
      | else-is_flagged w ↦ w.last-is ∙ c.loop-entry.invariant ∙ sym (last_number-unflagged c.args.flags.now c.args.imms.now c.loop-entry.entry-index c.entry-item.result within c.entry-item.is (sym c.is_flagged.ensures ∙ w.if-is_flagged.false))
    ]
