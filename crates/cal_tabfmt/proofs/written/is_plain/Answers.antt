use Rattle.std.proofs.Common.{◌≡◌, ℕ, ◌+◌, ◌<◌, ◌==◌, false, ◌||◌, List, [], ◌∷◌, ◌++◌, get_or, length, take, sym, ap, ◌∙◌}
use Rattle.std.proofs.lemmas.Bool.{cond-false, or_from, or_parts}
use Rattle.std.proofs.lemmas.List.{append-nil, take_more}
use Rattle.cal_line.specs.Escapes.{escaped, escaped_byte}
use Rattle.cal_line.proofs.EscapeSteps.{escaped-append}
use Rattle.cal_tabfmt.proofs.written.is_plain.Goals as goal

-- a byte that is none of these is written as it is
plain_byte : (b : ℕ) → (b == 10) ≡ false → (b == 92) ≡ false → (b == 44) ≡ false → (b == 61) ≡ false → escaped_byte b ≡ b ∷ []
plain_byte b newline backslash comma equals =
    cond-false (b == 10) (92 ∷ 110 ∷ []) _ newline
    ∙ cond-false ((b == 92) || (b == 44) || (b == 61)) (92 ∷ b ∷ []) (b ∷ []) (or_from _ _ (or_from _ _ backslash comma) equals)

-- one byte more that is written as it is
plain-more : (text : List ℕ) (place : ℕ) → place < length text → escaped (take place text) ≡ take place text → escaped_byte (get_or text place 0) ≡ get_or text place 0 ∷ []
    → escaped (take (place + 1) text) ≡ take (place + 1) text
plain-more text place within so_far as_is =
    ap escaped (take_more text place 0 within)
    ∙ escaped-append (take place text) (get_or text place 0 ∷ [])
    ∙ ap (λ (front : List ℕ). front ++ escaped (get_or text place 0 ∷ [])) so_far
    ∙ ap (λ (last : List ℕ). take place text ++ last) (append-nil (escaped_byte (get_or text place 0)) ∙ as_is)
    ∙ sym (take_more text place 0 within)

pub loop-byte-preserved : goal.loop-byte-preserved
loop-byte-preserved c = λ newline backslash comma equals.
    let n = or_parts _ _ newline in
    let b = or_parts _ _ backslash in
    let k = or_parts _ _ comma in
    let e = or_parts _ _ equals in
    plain-more c.args.text.now c.loop-byte.byte-index (rw c.as_bytes-byte-items.ensures.value at c.loop-byte-test.true)
    (c.loop-byte.invariant n.0 b.0 k.0 e.0)
    (rw c.as_bytes-byte-items.ensures.value at (plain_byte _ n.1 b.1 k.1 e.1))
