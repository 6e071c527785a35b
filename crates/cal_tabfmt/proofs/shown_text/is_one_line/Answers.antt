use Rattle.std.proofs.Common.{◌≡◌, false, true, sym, ◌∙◌}
use Rattle.cal_tabfmt.proofs.NewlineSteps.{on_line-plain}
use Rattle.cal_tabfmt.proofs.shown_text.is_one_line.Goals as goal
use Rattle.cal_tabfmt.proofs.shown_text.is_one_line.Goals.{then-is_newline, else-is_newline}

pub loop-byte-preserved : goal.loop-byte-preserved
loop-byte-preserved c =
    elim c.if-is_newline.branch [
      | then-is_newline w ↦ (λ is. (let told : false ≡ true = sym w.plain-is ∙ is in cc))
      | else-is_newline w ↦ (λ is.
          on_line-plain c.args.text.now c.loop-byte.byte-index (rw c.as_bytes-byte-items.ensures.value at c.loop-byte-test.true)
          (c.loop-byte.invariant (sym w.plain-is ∙ is)) (rw c.as_bytes-byte-items.ensures.value at (c.is_newline.ensures w.if-is_newline.false)))
    ]
