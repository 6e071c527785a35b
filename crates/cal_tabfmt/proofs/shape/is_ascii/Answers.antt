use Rattle.std.proofs.Common.{◌≡◌, ℕ, ◌+◌, ◌<◌, false, true, List, get_or, length, take, sym, ap, ◌∙◌}
use Rattle.std.specs.Fmt.{is_char_start}
use Rattle.std.proofs.lemmas.List.Sums.{count_by_more_yes}
use Rattle.std.proofs.lemmas.Bool.{lt-ltb, or_left}
use Rattle.cal_tabfmt.specs.Grid.{width}
use Rattle.cal_tabfmt.proofs.shape.is_ascii.Goals as goal
use Rattle.cal_tabfmt.proofs.shape.is_ascii.Goals.{then-byte-ge128, else-byte-ge128}

-- such a byte is a character
starts : (b : ℕ) → b < 128 → is_char_start b ≡ true
starts b ascii = or_left _ _ (lt-ltb b 128 ascii)

-- one byte more is one character more
width-more : (text : List ℕ) (place : ℕ) → place < length text → width (take place text) ≡ place → get_or text place 0 < 128 → width (take (place + 1) text) ≡ place + 1
width-more text place within so_far ascii =
    count_by_more_yes is_char_start text place 0 within (starts (get_or text place 0) ascii) ∙ ap (λ (n : ℕ). n + 1) so_far

pub loop-byte-preserved : goal.loop-byte-preserved
loop-byte-preserved c =
    elim c.if-byte-ge128.branch [
      | then-byte-ge128 w ↦ (λ is. (let told : false ≡ true = sym w.ascii-is ∙ is in cc))
      | else-byte-ge128 w ↦ (λ is.
          width-more c.args.text.now c.loop-byte.byte-index (rw c.as_bytes-byte-items.ensures.value at c.loop-byte-test.true)
          (c.loop-byte.invariant (sym w.ascii-is ∙ is)) (rw c.as_bytes-byte-items.ensures.value at w.if-byte-ge128.false))
    ]
